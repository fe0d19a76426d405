-- Declarations and members where they stand, as the nodes of the rules, and what stands above them.
use Rattle.std.specs.Prelude.{◌≡◌, List, map}
use Rattle.std.specs.Option.{option_copied}
use Rattle.std.specs.Borrow.{Bor}
use Rattle.iface_codec.specs.declared.iface.Iface.{Iface}
use Rattle.iface_codec.specs.declared.iface.IfaceMethod.{IfaceMethod}
use Rattle.jp_ast.specs.declared.decl.Decl.{Decl}
use Rattle.type_rules.specs.Heads.{head}
use Rattle.type_rules.specs.Lookups.{superclasses}
use Rattle.type_rules.specs.RulesOfDeclarations.{inherited}
use Rattle.type_rules.specs.Nodes.{DeclNode, MemberNode}
use Rattle.type_heads.specs.Supertypes.{classes_at}
use Rattle.decl_rules.specs.declared.standing.Above.{Above}
use Rattle.decl_rules.specs.declared.standing.DeclAt.{DeclAt}
use Rattle.decl_rules.specs.declared.standing.MemberAt.{MemberAt}

-- methods that are referred to
abbrev pub methods_at : List (Bor IfaceMethod) → List IfaceMethod
methods_at methods = map (λ m. m.now) methods

-- what stands above a declaration: its superclasses upwards, and the methods that it inherits
pub record IsAbove (heads : List Iface) (d : Decl) (a : Above) : Type 0 where
  pub line_is : classes_at a.superclasses.items ≡ superclasses heads (head d)
  pub methods_are : methods_at a.inherited.items ≡ inherited heads d

abbrev pub decl_of : DeclAt → DeclNode
decl_of d = record { heads = d.heads.now; earlier = d.before.now; decl = d.decl.now }

abbrev pub member_of : MemberAt → MemberNode
member_of m = record {
  heads = m.heads.now;
  decl = m.decl.now;
  earlier = m.before.now;
  member = m.member.now;
  super_args = option_copied m.super_args;
  completes = m.completes;
}
