-- No method of a unit that was read is called as constructors are in class files: its name is a word of the language.
use Rattle.std.proofs.Common.{◌≡◌, List, [], ◌∷◌, ◌++◌, Bool, true, false, refl, ap, subst, inl, inr, arith}
use Rattle.std.specs.Prelude.{◌&&◌, not, codes}
use Rattle.std.specs.List.{list_all, filter_map, cons_option}
use Rattle.std.proofs.lemmas.Bool.{false≢true}
use Rattle.jp_pred.specs.Names.{Word, same}
use Rattle.jp_pred.proofs.Ascents.{same_true}
use Rattle.jp_pred.proofs.Visits.{true_or_false}
use Rattle.jp_ast.specs.declared.decl.Decl.{Decl}
use Rattle.jp_ast.specs.declared.decl.Member.{Member}
use Rattle.jp_ast.specs.declared.decl.MemberPart.{MemberPart}
use Rattle.jp_ast.specs.declared.decl.MemberPart.TheVariants as part
use Rattle.jp_ast.specs.declared.decl.SourceUnit.{SourceUnit}
use Rattle.jp_lexical.specs.Characters.{is_word_byte}
use Rattle.jp_grammar.specs.Kinds.{Tokens}
use Rattle.jp_grammar.specs.Declarations.{MemberBody, field, static_method, abstract_method, method_body, constructor, OneMember, default_member, public_member, private_member, Members, members_end, members_more, Promise, promise, Promises, promises_end, promises_more, Declaration, class_decl, interface_decl, MoreDeclarations, unit_end, unit_more, Whole, whole}
use Rattle.iface_codec.specs.declared.iface.IfaceMethod.{IfaceMethod}
use Rattle.type_rules.specs.Heads.{as_method, method_part, head}
use Rattle.calls_fit.proofs.Named.{first_true, second_true, first_of}
use Rattle.typed_fits.proofs.SeenFits.{and_so}
use Rattle.typed_fits.proofs.WordsOfExpressions.{IsWordly, AreWordly, rest, word_is, two}
use Rattle.typed_fits.proofs.WordsOfStatements.{behind_type, behind_result}
use Rattle.typed_fits.proofs.ReadNames.{lexed_wordly, behind_maybe, behind_params, behind_member, behind_promise, behind_names, behind_super, behind_modifier, behind_declaration}
use Rattle.unit_laws.specs.Laws.{has_ordinary_methods, ReadMethodsAreOrdinary}

-- a word has no `<`
no_word : IsWordly (codes "<init>") → ⊥
unfolding is_word_byte
no_word h = false≢true (h 0 0 (omega arith))

not_constructor : (name : Word) → IsWordly name → same name (codes "<init>") ≡ false
not_constructor name w = elim (true_or_false (same name (codes "<init>"))) [
  | inl t ↦ absurd (no_word (subst IsWordly (same_true name (codes "<init>") t) w))
  | inr f ↦ f
]

-- MEMBERS

body_name : {private : Bool} {m : Member} {xs zs : Tokens} → MemberBody private xs m zs → AreWordly xs → IsWordly m.name
body_name (field {name = name} s t h i) w = word_is (behind_type t (behind_maybe s w)) name (first_of h)
body_name (static_method {name = name} h r i p b) w = word_is (behind_result r (rest w)) name (first_of i)
body_name (abstract_method {name = name} h r i p j) w = word_is (behind_result r (rest w)) name (first_of i)
body_name (method_body {name = name} r h p g b) w = word_is (behind_result r w) name (first_of h)
body_name (constructor {name = name} h p i s b) w = word_is w name (first_of h)

member_name : {m : Member} {xs zs : Tokens} → OneMember xs m zs → AreWordly xs → IsWordly m.name
member_name (default_member b) w = body_name b w
member_name (public_member h b) w = body_name b (rest w)
member_name (private_member h b) w = body_name b (rest w)

promise_name : {m : Member} {xs zs : Tokens} → Promise xs m zs → AreWordly xs → IsWordly m.name
promise_name (promise {name = name} a b r h p i) w = word_is (behind_result r (behind_maybe b (behind_maybe a w))) name (first_of h)

-- the name of each member is a word
abbrev AreNamed : List Member → Type 0
AreNamed [] = Unit {0}
AreNamed (m ∷ ms) = IsWordly m.name × AreNamed ms

one_named : (ms : List Member) (m : Member) → AreNamed ms → IsWordly m.name → AreNamed (ms ++ m ∷ [])
one_named [] m h k = (k, tt)
one_named (x ∷ ms) m (a, h) k = (a, one_named ms m h k)

members_named : {ms ns : List Member} {xs zs : Tokens} → Members ms xs ns zs → AreWordly xs → AreNamed ms → AreNamed ns
members_named (members_end h) w k = k
members_named (members_more {m = m} {ms = ms} g n) w k = members_named n (behind_member g w) (one_named ms m k (member_name g w))

promises_named : {ms ns : List Member} {xs zs : Tokens} → Promises ms xs ns zs → AreWordly xs → AreNamed ms → AreNamed ns
promises_named (promises_end h) w k = k
promises_named (promises_more {m = m} {ms = ms} g n) w k = promises_named n (behind_promise g w) (one_named ms m k (promise_name g w))

-- DECLARATIONS

one_ordinary : (m : Member) (q : MemberPart) → same m.name (codes "<init>") ≡ false → (ms : List IfaceMethod) → list_all (λ k. not (same k.name (codes "<init>"))) ms ≡ true → list_all (λ k. not (same k.name (codes "<init>"))) (cons_option (method_part [] m q) ms) ≡ true
one_ordinary m (part.Field t static) h ms e = e
one_ordinary m (part.Static result block) h ms e = and_so (not (same m.name (codes "<init>"))) (list_all (λ k. not (same k.name (codes "<init>"))) ms) (ap not h) e
one_ordinary m (part.Abstract result) h ms e = and_so (not (same m.name (codes "<init>"))) (list_all (λ k. not (same k.name (codes "<init>"))) ms) (ap not h) e
one_ordinary m (part.Body result guard block) h ms e = and_so (not (same m.name (codes "<init>"))) (list_all (λ k. not (same k.name (codes "<init>"))) ms) (ap not h) e
one_ordinary m (part.Constructor args block) h ms e = e

all_ordinary : (ms : List Member) → AreNamed ms → list_all (λ k. not (same k.name (codes "<init>"))) (filter_map as_method ms) ≡ true
all_ordinary [] h = refl
all_ordinary (m ∷ ms) (a, h) = one_ordinary m m.part (not_constructor m.name a) (filter_map as_method ms) (all_ordinary ms h)

declaration_ordinary : {xs zs : Tokens} (d : Decl) → Declaration xs d zs → AreWordly xs → has_ordinary_methods d ≡ true
declaration_ordinary d (class_decl a m h i s n j g) w = all_ordinary d.members (members_named g (rest (behind_names n (behind_super s (two (behind_modifier m (behind_maybe a w)))))) tt)
declaration_ordinary d (interface_decl a h i n j g) w = all_ordinary d.members (promises_named g (rest (behind_names n (two (behind_maybe a w)))) tt)

more_ordinary : (ds : List Decl) (d : Decl) → list_all has_ordinary_methods ds ≡ true → has_ordinary_methods d ≡ true → list_all has_ordinary_methods (ds ++ d ∷ []) ≡ true
more_ordinary [] d h k = and_so (has_ordinary_methods d) true k refl
more_ordinary (x ∷ ds) d h k = and_so (has_ordinary_methods x) (list_all has_ordinary_methods (ds ++ d ∷ [])) (first_true (has_ordinary_methods x) (list_all has_ordinary_methods ds) h) (more_ordinary ds d (second_true (has_ordinary_methods x) (list_all has_ordinary_methods ds) h) k)

declarations_ordinary : {ds es : List Decl} {xs : Tokens} → MoreDeclarations ds xs es → AreWordly xs → list_all has_ordinary_methods ds ≡ true → list_all has_ordinary_methods es ≡ true
declarations_ordinary (unit_end h) w k = k
declarations_ordinary (unit_more {d = d} {ds = ds} g m) w k = declarations_ordinary m (behind_declaration g w) (more_ordinary ds d k (declaration_ordinary d g w))

whole_ordinary : {xs : Tokens} {u : SourceUnit} → Whole xs u → AreWordly xs → list_all has_ordinary_methods u.decls ≡ true
whole_ordinary (whole {d = d} g m) w = declarations_ordinary m (behind_declaration g w) (more_ordinary [] d refl (declaration_ordinary d g w))

pub methods_ordinary : ReadMethodsAreOrdinary
methods_ordinary text tokens unit l p = whole_ordinary p.whole (lexed_wordly l)
