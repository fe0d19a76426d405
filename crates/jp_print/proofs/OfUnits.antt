-- Declarations and units read back.
use Rattle.std.proofs.Common.{◌≡◌, ℕ, Bool, true, false, List, [], ◌∷◌, ◌++◌, map, Option, Some, None, refl, sym, ap, ◌∙◌, subst, append_assoc, arith, codes}
use Rattle.std.specs.Prelude.{flat_map}
use Rattle.std.specs.List.{AllByRecursion}
use Rattle.std.proofs.lemmas.List.{append-nil}
use Rattle.jp_ast.specs.declared.token.Place.{Place}
use Rattle.jp_ast.specs.declared.token.Token.{Token}
use Rattle.jp_ast.specs.declared.token.Lexeme.{Lexeme}
use Rattle.jp_ast.specs.declared.token.Lexeme.TheVariants.{Word, Sign, End}
use Rattle.jp_ast.specs.declared.decl.SourceUnit.{SourceUnit}
use Rattle.jp_ast.specs.declared.decl.Decl.{Decl}
use Rattle.jp_ast.specs.declared.decl.Member.{Member}
use Rattle.jp_ast.specs.declared.sign.TheConstants as sign
use Rattle.jp_grammar.specs.declared.kind.Kind.{Kind}
use Rattle.jp_grammar.specs.declared.kind.Kind.TheVariants as k
use Rattle.jp_grammar.specs.Kinds.{Is, IsSign, IsName, Tokens, nowhere, kind_of_lexeme}
use Rattle.jp_grammar.specs.Declarations.{Maybe, MoreNames, MaybeNames, MaybeSuper, OneMember, Members, Promise, Promises, Modifier, Declaration, MoreDeclarations, Whole, absent, present, names_end, names_more, no_names, some_names, no_super, some_super, members_end, members_more, promises_end, promises_more, no_modifier, abstract_modifier, final_modifier, class_decl, interface_decl, unit_end, unit_more, whole}
use Rattle.jp_print.specs.Expressions.{behind_comma, commas, maybe}
use Rattle.jp_print.specs.Statements.{in_braces}
use Rattle.jp_print.specs.Declarations.{word_if, name_tokens, word_names, member_tokens, extends_name, class_head, interface_head, decl_tokens, unit_tokens}
use Rattle.jp_print.specs.Places.{unplaced_member, unplaced_decl, unplaced_unit}
use Rattle.jp_print.proofs.Forms.{Formed, FormedTokens, formed_append, Nameable, nameable, is_name, is_sign, sign_formed}
use Rattle.jp_print.proofs.Keywords.{Keyword, is, abstract_word, final_word, class_word, extends_word, implements_word, interface_word}
use Rattle.jp_print.proofs.Goes.{Goes, done, next, Parted, parted, Reading, pushed, all_pushed}
use Rattle.jp_print.proofs.Arguments.{AllFormed, commas_formed}
use Rattle.jp_print.proofs.OfStatements.{braces_formed}
use Rattle.jp_print.proofs.OfMembers.{word_of, MemberAgain, member_of, PromiseAgain, promise_of}

-- ---- names behind a word

abbrev pub AreNames : List (List ℕ) → Type 0
AreNames names = AllByRecursion Nameable names

names_formed : (names : List (List ℕ)) → AreNames names → AllFormed (map name_tokens names)
names_formed [] i = tt
names_formed (name ∷ names) i = ((i.0.formed, tt), names_formed names i.1)

word_names_formed : {word : List ℕ} {kind : Kind} → Keyword word kind → (names : List (List ℕ)) → AreNames names → Formed (word_names word names)
word_names_formed keyword [] i = tt
word_names_formed keyword (name ∷ names) i = (keyword.form, commas_formed (map name_tokens (name ∷ names)) (names_formed (name ∷ names) i))

more_names : (names begun : List (List ℕ)) → AreNames names → {xs ys : Tokens} → Goes (flat_map behind_comma (map name_tokens names)) xs ys → MoreNames begun xs (begun ++ names) ys
more_names [] begun i {xs = xs} done = subst (λ (x : List (List ℕ)). MoreNames begun xs x xs) (sym (append-nil begun)) names_end
more_names (name ∷ names) begun i {ys = ys} (next {s = s} h (next {s = c} {xs = xs} j g)) =
    names_more (is_sign _ s h) (is_name name c i.0 j)
    (subst (λ (x : List (List ℕ)). MoreNames (begun ++ name ∷ []) xs x ys) (append_assoc begun (name ∷ []) names) (more_names names (begun ++ name ∷ []) i.1 g))

read_names : {word : List ℕ} {kind : Kind} → Keyword word kind → (names : List (List ℕ)) → AreNames names → {xs ys : Tokens} → Goes (word_names word names) xs ys → MaybeNames kind xs names ys
read_names keyword [] i done = no_names
read_names keyword (name ∷ names) i (next {s = s} h (next {s = c} j g)) = some_names (is keyword s h) (is_name name c i.0 j) (more_names names (name ∷ []) i.1 g)

all_names : (ms ns : List (List ℕ)) → AreNames ms → AreNames ns → AreNames (ms ++ ns)
all_names [] ns a b = b
all_names (m ∷ ms) ns a b = (a.0, all_names ms ns a.1 b)

more_names_of : {xs zs : Tokens} {ms ns : List (List ℕ)} → MoreNames ms xs ns zs → AreNames ms → FormedTokens xs → AreNames ns × FormedTokens zs
more_names_of names_end i f = (i, f)
more_names_of (names_more {c = c} {name = name} {ns = ns} h n r) i f = more_names_of r (all_names ns (name ∷ []) i (nameable name c n f.1.0, tt)) f.1.1

names_of : {kind : Kind} {xs zs : Tokens} {ns : List (List ℕ)} → MaybeNames kind xs ns zs → FormedTokens xs → AreNames ns × FormedTokens zs
names_of no_names f = (tt, f)
names_of (some_names {c = c} {name = name} h n r) f = more_names_of r (nameable name c n f.1.0, tt) f.1.1

-- ---- the superclass

abbrev pub NameIf : Option (List ℕ) → Type 0
NameIf None = Unit {0}
NameIf (Some name) = Nameable name

super_formed : (name : Option (List ℕ)) → NameIf name → Formed (maybe extends_name name)
super_formed None n = tt
super_formed (Some name) n = (extends_word.form, (n.formed, tt))

read_super : (name : Option (List ℕ)) → NameIf name → {xs ys : Tokens} → Goes (maybe extends_name name) xs ys → MaybeSuper xs name ys
read_super None n done = no_super
read_super (Some name) n (next {s = s} h (next {s = c} j done)) = some_super (is extends_word s h) (is_name name c n j)

super_of : {xs zs : Tokens} {name : Option (List ℕ)} → MaybeSuper xs name zs → FormedTokens xs → NameIf name × FormedTokens zs
super_of no_super f = (tt, f)
super_of (some_super {c = c} {name = name} h n) f = (nameable name c n f.1.0, f.1.1)

-- ---- members in braces

abbrev pub AreMembers : List Member → Type 0
AreMembers ms = AllByRecursion MemberAgain ms

abbrev pub ArePromises : List Member → Type 0
ArePromises ms = AllByRecursion PromiseAgain ms

all_of : {T : Type 0} (P : T → Type 0) (xs ys : List T) → AllByRecursion P xs → AllByRecursion P ys → AllByRecursion P (xs ++ ys)
all_of P [] ys a b = b
all_of P (x ∷ xs) ys a b = (a.0, all_of P xs ys a.1 b)

members_formed : (ms : List Member) → AreMembers ms → Formed (flat_map (member_tokens false) ms)
members_formed [] a = tt
members_formed (m ∷ ms) a = formed_append (member_tokens false m) _ a.0.formed (members_formed ms a.1)

promises_formed : (ms : List Member) → ArePromises ms → Formed (flat_map (member_tokens true) ms)
promises_formed [] a = tt
promises_formed (m ∷ ms) a = formed_append (member_tokens true m) _ a.0.formed (promises_formed ms a.1)

read_members : (ms begun : List Member) → AreMembers ms → {xs ns ys : Tokens} → Goes (flat_map (member_tokens false) ms) xs ns → Goes (Sign sign.CLOSE_BRACE ∷ []) ns ys → Reading (Members begun) (map unplaced_member) xs (begun ++ ms) ys
read_members [] begun a done (next {s = p} h done) = record { tree = begun; reads = members_end (is_sign _ p h); same = all_pushed unplaced_member begun }
read_members (m ∷ ms) begun a g h =
    let p = parted (member_tokens false m) (flat_map (member_tokens false) ms) g in
    let r = a.0.read _ _ p.front in
    let n = read_members ms (begun ++ r.tree ∷ []) a.1 p.back h in
    record { tree = n.tree; reads = members_more r.reads n.reads; same = n.same ∙ pushed unplaced_member begun r.tree m ms r.same }

read_promises : (ms begun : List Member) → ArePromises ms → {xs ns ys : Tokens} → Goes (flat_map (member_tokens true) ms) xs ns → Goes (Sign sign.CLOSE_BRACE ∷ []) ns ys → Reading (Promises begun) (map unplaced_member) xs (begun ++ ms) ys
read_promises [] begun a done (next {s = p} h done) = record { tree = begun; reads = promises_end (is_sign _ p h); same = all_pushed unplaced_member begun }
read_promises (m ∷ ms) begun a g h =
    let p = parted (member_tokens true m) (flat_map (member_tokens true) ms) g in
    let r = a.0.read _ _ p.front in
    let n = read_promises ms (begun ++ r.tree ∷ []) a.1 p.back h in
    record { tree = n.tree; reads = promises_more r.reads n.reads; same = n.same ∙ pushed unplaced_member begun r.tree m ms r.same }

members_of : {xs zs : Tokens} {ms ns : List Member} → Members ms xs ns zs → AreMembers ms → FormedTokens xs → AreMembers ns × FormedTokens zs
members_of (members_end h) a f = (a, f.1)
members_of (members_more {m = m} {ms = ms} r n) a f = let x = member_of r f in members_of n (all_of MemberAgain ms (m ∷ []) a (x.0, tt)) x.1

promises_of : {xs zs : Tokens} {ms ns : List Member} → Promises ms xs ns zs → ArePromises ms → FormedTokens xs → ArePromises ns × FormedTokens zs
promises_of (promises_end h) a f = (a, f.1)
promises_of (promises_more {m = m} {ms = ms} r n) a f = let x = promise_of r f in promises_of n (all_of PromiseAgain ms (m ∷ []) a (x.0, tt)) x.1

-- ---- `abstract` or `final`

abbrev IsModifier : Bool → Bool → Type 0
IsModifier true true = ⊥
IsModifier _ _ = Unit {0}

modifier_of : {xs zs : Tokens} {abstracts finals : Bool} → Modifier xs abstracts finals zs → FormedTokens xs → IsModifier abstracts finals × FormedTokens zs
modifier_of no_modifier f = (tt, f)
modifier_of (abstract_modifier h) f = (tt, f.1)
modifier_of (final_modifier h) f = (tt, f.1)

modifier_formed : (abstracts finals : Bool) → Formed (word_if abstracts (codes "abstract") ++ word_if finals (codes "final"))
modifier_formed true true = (abstract_word.form, (final_word.form, tt))
modifier_formed true false = (abstract_word.form, tt)
modifier_formed false true = (final_word.form, tt)
modifier_formed false false = tt

read_modifier : (abstracts finals : Bool) → IsModifier abstracts finals → {xs ys : Tokens} → Goes (word_if abstracts (codes "abstract") ++ word_if finals (codes "final")) xs ys → Modifier xs abstracts finals ys
read_modifier true true i g = absurd i
read_modifier true false i (next {s = s} h done) = abstract_modifier (is abstract_word s h)
read_modifier false true i (next {s = s} h done) = final_modifier (is final_word s h)
read_modifier false false i done = no_modifier

-- ---- declarations

-- the declaration reads back
pub record DeclAgain (d : Decl) : Type 0 where
  pub formed : Formed (decl_tokens d)
  pub read : (xs ys : Tokens) → Goes (decl_tokens d) xs ys → Reading Declaration unplaced_decl xs d ys

-- a class, and an interface, at a place
abbrev class_at : Place → List ℕ → Bool → Bool → Option (List ℕ) → List (List ℕ) → List Member → Decl
class_at p name abstracts finals super ns ms = record { place = p; name = name; is_interface = false; is_abstract = abstracts; is_final = finals; superclass = super; interfaces = ns; members = ms }

abbrev interface_at : Place → List ℕ → List (List ℕ) → List Member → Decl
interface_at p name ns ms = record { place = p; name = name; is_interface = true; is_abstract = false; is_final = false; superclass = None; interfaces = ns; members = ms }

module _ (p : Place) (name : List ℕ) (n : Nameable name) (ns : List (List ℕ)) (ins : AreNames ns) where
  module _ (abstracts finals : Bool) (im : IsModifier abstracts finals) (super : Option (List ℕ)) (isup : NameIf super) (ms : List Member) (a : AreMembers ms) where
    class_formed : Formed (decl_tokens (class_at p name abstracts finals super ns ms))
    class_formed =
        formed_append (class_head (class_at p name abstracts finals super ns ms)) _
        (formed_append ((word_if abstracts (codes "abstract") ++ word_if finals (codes "final")) ++ Word (codes "class") ∷ Word name ∷ [] ++ maybe extends_name super) _
        (formed_append ((word_if abstracts (codes "abstract") ++ word_if finals (codes "final")) ++ Word (codes "class") ∷ Word name ∷ []) _
        (formed_append (word_if abstracts (codes "abstract") ++ word_if finals (codes "final")) _ (modifier_formed abstracts finals) (class_word.form, (n.formed, tt)))
        (super_formed super isup)) (word_names_formed implements_word ns ins))
        (braces_formed (flat_map (member_tokens false) ms) (members_formed ms a))

    class_parts : {x0 x1 x2 x3 x4 x5 ys : Tokens} → Goes (word_if abstracts (codes "abstract") ++ word_if finals (codes "final")) x0 x1 → Goes (Word (codes "class") ∷ Word name ∷ []) x1 x2 → Goes (maybe extends_name super) x2 x3 →
        Goes (word_names (codes "implements") ns) x3 x4 → Goes (Sign sign.OPEN_BRACE ∷ flat_map (member_tokens false) ms) x4 x5 → Goes (Sign sign.CLOSE_BRACE ∷ []) x5 ys →
        Reading Declaration unplaced_decl x0 (class_at p name abstracts finals super ns ms) ys
    class_parts gm (next {s = s} h (next {s = c} i done)) gs gn (next {s = o} j g) e =
        let r = read_members ms [] a g e in
        record {
          tree = class_at c.place name abstracts finals super ns r.tree;
          reads = class_decl absent (read_modifier abstracts finals im gm) (is class_word s h) (is_name name c n i) (read_super super isup gs) (read_names implements_word ns ins gn) (is_sign _ o j) r.reads;
          same = ap (λ x. class_at nowhere name abstracts finals super ns x) r.same;
        }

    class_read : (xs ys : Tokens) → Goes (decl_tokens (class_at p name abstracts finals super ns ms)) xs ys → Reading Declaration unplaced_decl xs (class_at p name abstracts finals super ns ms) ys
    class_read xs ys g =
        let q1 = parted (class_head (class_at p name abstracts finals super ns ms)) (in_braces (flat_map (member_tokens false) ms)) g in
        let q2 = parted (Sign sign.OPEN_BRACE ∷ flat_map (member_tokens false) ms) (Sign sign.CLOSE_BRACE ∷ []) q1.back in
        let q3 = parted ((word_if abstracts (codes "abstract") ++ word_if finals (codes "final")) ++ Word (codes "class") ∷ Word name ∷ [] ++ maybe extends_name super) (word_names (codes "implements") ns) q1.front in
        let q4 = parted ((word_if abstracts (codes "abstract") ++ word_if finals (codes "final")) ++ Word (codes "class") ∷ Word name ∷ []) (maybe extends_name super) q3.front in
        let q5 = parted (word_if abstracts (codes "abstract") ++ word_if finals (codes "final")) (Word (codes "class") ∷ Word name ∷ []) q4.front in
        class_parts q5.front q5.back q4.back q3.back q2.front q2.back

    class_again : DeclAgain (class_at p name abstracts finals super ns ms)
    class_again = record { formed = class_formed; read = class_read }

  module _ (ms : List Member) (a : ArePromises ms) where
    interface_parts : {x1 x2 x3 ys : Tokens} (s c : Token) → s.lexeme ≡ Word (codes "interface") → c.lexeme ≡ Word name → Goes (word_names (codes "extends") ns) x1 x2 →
        Goes (Sign sign.OPEN_BRACE ∷ flat_map (member_tokens true) ms) x2 x3 → Goes (Sign sign.CLOSE_BRACE ∷ []) x3 ys → Reading Declaration unplaced_decl (s ∷ c ∷ x1) (interface_at p name ns ms) ys
    interface_parts s c h i gn (next {s = o} j g) e =
        let r = read_promises ms [] a g e in
        record {
          tree = interface_at c.place name ns r.tree;
          reads = interface_decl absent (is interface_word s h) (is_name name c n i) (read_names extends_word ns ins gn) (is_sign _ o j) r.reads;
          same = ap (λ x. interface_at nowhere name ns x) r.same;
        }

    interface_read : (xs ys : Tokens) → Goes (decl_tokens (interface_at p name ns ms)) xs ys → Reading Declaration unplaced_decl xs (interface_at p name ns ms) ys
    interface_read xs ys (next {s = s} h (next {s = c} i g)) =
        let q = parted (word_names (codes "extends") ns) (in_braces (flat_map (member_tokens true) ms)) g in
        let q' = parted (Sign sign.OPEN_BRACE ∷ flat_map (member_tokens true) ms) (Sign sign.CLOSE_BRACE ∷ []) q.back in
        interface_parts s c h i q.front q'.front q'.back

    interface_again : DeclAgain (interface_at p name ns ms)
    interface_again = record {
      formed = (interface_word.form, (n.formed, formed_append (word_names (codes "extends") ns) _ (word_names_formed extends_word ns ins) (braces_formed (flat_map (member_tokens true) ms) (promises_formed ms a))));
      read = interface_read;
    }

decl_of : {xs zs : Tokens} {d : Decl} → Declaration xs d zs → FormedTokens xs → DeclAgain d × FormedTokens zs
decl_of (class_decl {abstracts = abstracts} {finals = finals} {c = c} {name = name} {super = super} {ns = ns} p m h n s i o r) f =
    let x = modifier_of m (word_of p f) in let y = super_of s x.1.1.1 in let z = names_of i y.1 in let w = members_of r tt z.1.1 in
    (class_again c.place name (nameable name c n x.1.1.0) ns z.0 abstracts finals x.0 super y.0 _ w.0, w.1)
decl_of (interface_decl {c = c} {name = name} {ns = ns} p h n i o r) f =
    let x = word_of p f in let z = names_of i x.1.1 in let w = promises_of r tt z.1.1 in
    (interface_again c.place name (nameable name c n x.1.0) ns z.0 _ w.0, w.1)

-- ---- units

abbrev pub AreDecls : List Decl → Type 0
AreDecls ds = AllByRecursion DeclAgain ds

decls_of : {xs : Tokens} {ds es : List Decl} → MoreDeclarations ds xs es → AreDecls ds → FormedTokens xs → AreDecls es
decls_of (unit_end h) a f = a
decls_of (unit_more {d = d} {ds = ds} r m) a f = let x = decl_of r f in decls_of m (all_of DeclAgain ds (d ∷ []) a (x.0, tt)) x.1

-- there is a declaration
abbrev pub IsSome : List Decl → Type 0
IsSome [] = ⊥
IsSome (d ∷ ds) = Unit {0}

pushed_some : (ds : List Decl) (d : Decl) → IsSome (ds ++ d ∷ [])
pushed_some [] d = tt
pushed_some (e ∷ ds) d = tt

some_of : {xs : Tokens} {ds es : List Decl} → MoreDeclarations ds xs es → IsSome ds → IsSome es
some_of (unit_end h) i = i
some_of (unit_more {d = d} {ds = ds} r m) i = some_of m (pushed_some ds d)

-- the declarations of a unit read back, and there is one
pub record UnitAgain (u : SourceUnit) : Type 0 where
  pub some : IsSome u.decls
  pub each : AreDecls u.decls

pub unit_of : {xs : Tokens} {u : SourceUnit} → Whole xs u → FormedTokens xs → UnitAgain u
unit_of (whole r m) f = let x = decl_of r f in record { some = some_of m tt; each = decls_of m (x.0, tt) x.1 }

decls_formed : (ds : List Decl) → AreDecls ds → Formed (flat_map decl_tokens ds)
decls_formed [] a = tt
decls_formed (d ∷ ds) a = formed_append (decl_tokens d) _ a.0.formed (decls_formed ds a.1)

pub unit_formed : (u : SourceUnit) → UnitAgain u → Formed (unit_tokens u)
unit_formed u a = decls_formed u.decls a.each

-- the declarations that are read up to the end of the text
record ReadDecls (begun : List Decl) (xs : Tokens) (ds : List Decl) : Type 0 where
  tree : List Decl
  reads : MoreDeclarations begun xs tree
  same : map unplaced_decl tree ≡ map unplaced_decl ds

read_decls : (ds begun : List Decl) → AreDecls ds → {xs ys : Tokens} → Goes (flat_map decl_tokens ds) xs ys → Goes (End ∷ []) ys [] → ReadDecls begun xs (begun ++ ds)
read_decls [] begun a done (next h done) = record { tree = begun; reads = unit_end (ap kind_of_lexeme h); same = all_pushed unplaced_decl begun }
read_decls (d ∷ ds) begun a g h =
    let p = parted (decl_tokens d) (flat_map decl_tokens ds) g in
    let r = a.0.read _ _ p.front in
    let n = read_decls ds (begun ++ r.tree ∷ []) a.1 p.back h in
    record { tree = n.tree; reads = unit_more r.reads n.reads; same = n.same ∙ pushed unplaced_decl begun r.tree d ds r.same }

-- the unit that is read, places aside
pub record ReadUnit (xs : Tokens) (u : SourceUnit) : Type 0 where
  pub tree : SourceUnit
  pub reads : Whole xs tree
  pub same : unplaced_unit tree ≡ unplaced_unit u

whole_of : (ds : List Decl) → IsSome ds → AreDecls ds → {xs ys : Tokens} → Goes (flat_map decl_tokens ds) xs ys → Goes (End ∷ []) ys [] → ReadUnit xs (record { decls = ds })
whole_of [] i a g h = absurd i
whole_of (d ∷ ds) i a g h =
    let p = parted (decl_tokens d) (flat_map decl_tokens ds) g in
    let r = a.0.read _ _ p.front in
    let n = read_decls ds (r.tree ∷ []) a.1 p.back h in
    record { tree = record { decls = n.tree }; reads = whole r.reads n.reads; same = ap (λ x. record { decls = x }) (n.same ∙ ap (λ x. x ∷ map unplaced_decl ds) r.same) }

-- tokens that are those of the printed unit and the end, places aside, are the unit
pub unit_again : (u : SourceUnit) → UnitAgain u → {xs : Tokens} → Goes (unit_tokens u ++ End ∷ []) xs [] → ReadUnit xs u
unit_again u a g = let q = parted (unit_tokens u) (End ∷ []) g in whole_of u.decls a.some a.each q.front q.back
