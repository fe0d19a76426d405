-- The classes of a unit that can be run are as the writer of class files asks.
use Rattle.std.proofs.Common.{◌≡◌, ℕ, true, List, [], refl}
use Rattle.std.specs.List.{list_all}
use Rattle.jp_pred.specs.Names.{Word}
use Rattle.jp_ast.specs.declared.decl.SourceUnit.{SourceUnit}
use Rattle.jp_meaning.specs.declared.unit.TypedUnit.{TypedUnit}
use Rattle.jp_meaning.specs.Classes.{hier_in}
use Rattle.jp_meaning.specs.Choice.{NoneIsTrue}
use Rattle.jp_meaning.specs.Run.{Program}
use Rattle.calls_fit.proofs.Named.{in_get}
use Rattle.typed_fits.specs.Laws.{has_plain_names}
use Rattle.typed_fits.proofs.ReadNames.{names_plain}
use Rattle.typed_fits.proofs.UnitFits.{trees_fit}
use Rattle.unit_laws.specs.Laws.{has_ordinary_methods}
use Rattle.unit_laws.proofs.OrdinaryNames.{methods_ordinary}
use Rattle.typed_code.proofs.UnitOrdinary.{meant_members}
use Rattle.limit_laws.proofs.Units.{slots as has_slots}
use Rattle.plain_laws.proofs.MembersApart.{members_apart}
use Rattle.plain_sizes.proofs.Plain.{few_items}
use Rattle.unit_check.specs.Texts.{IsSound}
use Rattle.unit_build.specs.Form.{HasForm}
use Rattle.unit_build.specs.Files.{AreWritable}

pub writable : (text : List ℕ) (unit : SourceUnit) (tree : TypedUnit) (main : Word) → IsSound text unit tree → HasForm unit main → AreWritable (hier_in tree.classes) tree.classes
writable text unit tree main sound form i c at =
    let typed = sound.typed in
    let is_unit = sound.is_within.is_self_contained.read.is_unit in
    let plain : list_all has_plain_names unit.decls ≡ true = names_plain text is_unit.tokens unit is_unit.lexed is_unit.parsed in
    let ordinary : list_all has_ordinary_methods unit.decls ≡ true = methods_ordinary text is_unit.tokens unit is_unit.lexed is_unit.parsed in
    let program : Program = record { classes = tree.classes; main = main; select = λ q. NoneIsTrue } in
    let fits = (trees_fit unit tree program typed plain refl).each i c at in
    let there = in_get tree.classes i c at in
    record {
      slots = λ j m g name n. has_slots unit [] tree typed c m there (in_get c.members j m g);
      meant = λ j m g name n. meant_members unit tree typed plain ordinary (hier_in tree.classes) c m there (in_get c.members j m g);
      signed = record { methods = fits.methods; constructors = fits.constructors };
      apart = members_apart unit tree typed form.plain.lone_bodies plain ordinary c there;
      few = λ j m g name n. few_items unit [] tree typed sound.is_within.within form.plain.no_guards (hier_in tree.classes) c m there (in_get c.members j m g);
    }
