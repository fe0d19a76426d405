-- A unit that is read from a text and is within the limits has short names and literals.
use Rattle.std.proofs.Common.{◌≡◌, ℕ, ◌≤◌, List, [], ◌∷◌, ◌++◌, map, length, Bool, true, false, cond, Option, Some, None, refl, sym, ap, subst, inl, inr, arith}
use Rattle.std.specs.Prelude.{◌&&◌, is_some, nat_le}
use Rattle.std.specs.List.{find, list_all, filter_map, flat_map, sum_by, cons_option}
use Rattle.std.specs.Option.{option_map, unwrap_or}
use Rattle.std.proofs.lemmas.Bool.{false≢true, ltb-false, le-leb, and_from, and_parts}
use Rattle.std.proofs.lemmas.List.{length-map}
use Rattle.jp_pred.specs.declared.ty.Ty.{Ty}
use Rattle.jp_pred.specs.Names.{Word, In, here, object}
use Rattle.jp_pred.proofs.Entries.{split_in}
use Rattle.jp_ast.specs.declared.expr.Expr.{Expr}
use Rattle.jp_ast.specs.declared.stmt.Stmt.{Stmt}
use Rattle.jp_ast.specs.declared.decl.Decl.{Decl}
use Rattle.jp_ast.specs.declared.decl.Member.{Member}
use Rattle.jp_ast.specs.declared.decl.MemberPart.{MemberPart}
use Rattle.jp_ast.specs.declared.decl.MemberPart.TheVariants as part
use Rattle.jp_ast.specs.declared.decl.Param.{Param}
use Rattle.jp_ast.specs.declared.decl.SourceUnit.{SourceUnit}
use Rattle.jp_ast.specs.declared.guard.GuardExpr.{GuardExpr}
use Rattle.jp_grammar.specs.declared.kind.Kind.{Kind}
use Rattle.jp_grammar.specs.Kinds.{Tokens}
use Rattle.jp_grammar.specs.Declarations.{Maybe, absent, present, MoreNames, names_end, names_more, MaybeNames, no_names, some_names, MaybeSuper, no_super, some_super, OneParam, one_param, MoreParams, last_param, next_param, Params, no_params, some_params, MaybeGuard, no_guard, some_guard, Braces, braces, MaybeSuperCall, no_super_call, some_super_call, MemberBody, field, static_method, abstract_method, method_body, constructor, OneMember, default_member, public_member, private_member, Members, members_end, members_more, Promise, promise, Promises, promises_end, promises_more, Modifier, no_modifier, abstract_modifier, final_modifier, Declaration, class_decl, interface_decl, MoreDeclarations, unit_end, unit_more, Whole, whole}
use Rattle.type_rules.specs.Heads.{as_field, field_part, as_method, method_part, as_constructor, constructor_part, param_types, or_default, superclass_of, head}
use Rattle.unit_limits.specs.declared.limits.Limit.TheVariants as limits
use Rattle.unit_limits.specs.Counting.{Count, counted, most, is_over, told, first_told}
use Rattle.unit_limits.specs.Texts.{expr_texts, stmt_texts}
use Rattle.unit_limits.specs.Members.{aliases, locals, written_nodes, member_nodes, texts, member_counts, decl_counts, counts_of}
use Rattle.code_texts.specs.Short.{is_short, names_short, has_short_params, or_so}
use Rattle.typed_texts.specs.Words.{expr_is_short, stmt_is_short, has_short_words, field_is_short, method_is_short, head_is_short, has_short_names}
use Rattle.typed_texts.specs.Laws.{ReadIsShort, ReadMembersAreShort}
use Rattle.typed_texts.proofs.ShortTokens.{AreShort, lexed_short, named, type_short, result_short}
use Rattle.typed_texts.proofs.SourceForms.{AreWithin, of_first, of_second, AllFine, arguments_fine, AllFineStmts, block_fine}
use Rattle.typed_texts.proofs.ReadExpressions.{read_args}
use Rattle.typed_texts.proofs.ReadStatements.{read_block}
use Rattle.typed_texts.proofs.ReadGuards.{behind_guard}
use Rattle.typed_texts.proofs.UnitShort.{typed_short}

-- LIMITS

all_within : (counts : List Count) → first_told counts ≡ None → AreWithin counts
all_within [] e c i = elim i [ ]
all_within (x ∷ xs) e c i = by_over (is_over x) refl e (λ f j. all_within xs f c j) where
  by_over : (b : Bool) → is_over x ≡ b → option_map told (cond b (Some x) (find is_over xs)) ≡ None → (first_told xs ≡ None → In c xs → c.number ≤ most c.limit) → c.number ≤ most c.limit
  by_over true f e later = absurd (false≢true (sym (ap is_some e)))
  by_over false f e later = elim (split_in x c xs i) [
    | inl q ↦ subst (λ (z : Count). z.number ≤ most z.limit) q (ltb-false (most x.limit) x.number f)
    | inr j ↦ later e j
  ]

-- NAMES

all_more : {X : Type 0} (f : X → Bool) (xs : List X) (x : X) → list_all f xs ≡ true → f x ≡ true → list_all f (xs ++ x ∷ []) ≡ true
all_more f [] x h k = and_from (f x) true k refl
all_more f (y ∷ ys) x h k = let g = and_parts (f y) (list_all f ys) h in and_from (f y) (list_all f (ys ++ x ∷ [])) g.0 (all_more f ys x g.1 k)

read_maybe : {kind : Kind} {b : Bool} {xs zs : Tokens} → Maybe kind xs b zs → AreShort xs → AreShort zs
read_maybe absent w = w
read_maybe (present h) w = w.1

read_more_names : {ns ms : List (List ℕ)} {xs zs : Tokens} → MoreNames ns xs ms zs → AreShort xs → list_all is_short ns ≡ true → AreShort zs × (list_all is_short ms ≡ true)
read_more_names names_end w k = (w, k)
read_more_names (names_more {c = c} {name = name} {ns = ns} h i m) w k = read_more_names m w.1.1 (all_more is_short ns name k (named name c i w.1.0))

read_names : {kind : Kind} {ns : List (List ℕ)} {xs zs : Tokens} → MaybeNames kind xs ns zs → AreShort xs → AreShort zs × (list_all is_short ns ≡ true)
read_names no_names w = (w, refl)
read_names (some_names {c = c} {name = name} h i m) w = read_more_names m w.1.1 (all_more is_short [] name refl (named name c i w.1.0))

read_super : {o : Option (List ℕ)} {xs zs : Tokens} → MaybeSuper xs o zs → AreShort xs → AreShort zs × (or_so is_short o ≡ true)
read_super no_super w = (w, refl)
read_super (some_super {c = c} {name = name} h i) w = (w.1.1, named name c i w.1.0)

-- PARAMETERS

abbrev types_in : List Param → List Ty
types_in ps = map (λ p. p.ty) ps

abbrev param_short : Param → Bool
param_short p = names_short p.ty

read_param : {p : Param} {xs zs : Tokens} → OneParam xs p zs → AreShort xs → AreShort zs × (param_short p ≡ true)
read_param (one_param t h) w = let x = type_short t w in (x.0.1, x.1)

read_more_params : {ps qs : List Param} {xs zs : Tokens} → MoreParams ps xs qs zs → AreShort xs → list_all param_short ps ≡ true → AreShort zs × (list_all param_short qs ≡ true)
read_more_params (last_param h) w k = (w.1, k)
read_more_params (next_param {p = p} {ps = ps} h g m) w k = let x = read_param g w.1 in read_more_params m x.0 (all_more param_short ps p k x.1)

read_params : {ps : List Param} {xs zs : Tokens} → Params xs ps zs → AreShort xs → AreShort zs × (list_all param_short ps ≡ true)
read_params (no_params h i) w = (w.1.1, refl)
read_params (some_params {p = p} h g m) w = let x = read_param g w.1 in read_more_params m x.0 (all_more param_short [] p refl x.1)

types_short : (ps : List Param) → list_all param_short ps ≡ true → list_all names_short (types_in ps) ≡ true
types_short [] h = refl
types_short (p ∷ ps) h = let g = and_parts (param_short p) (list_all param_short ps) h in and_from (param_short p) (list_all names_short (types_in ps)) g.0 (types_short ps g.1)

-- MEMBERS

read_guard : {g : Option GuardExpr} {xs zs : Tokens} → MaybeGuard xs g zs → AreShort xs → AreShort zs
read_guard no_guard w = w
read_guard (some_guard h g) w = behind_guard g w.1

read_braces : {ts : List Stmt} {xs zs : Tokens} → Braces xs ts zs → AreShort xs → AreShort zs × AllFineStmts ts
read_braces (braces h b) w = read_block b w.1 tt

abbrev FineArgs : Option (List Expr) → Type 0
FineArgs None = Unit {0}
FineArgs (Some xs) = AllFine xs

read_super_call : {ts : Option (List Expr)} {xs zs : Tokens} → MaybeSuperCall xs ts zs → AreShort xs → AreShort zs × FineArgs ts
read_super_call no_super_call w = (w, tt)
read_super_call (some_super_call h i a j) w = let x = read_args a w.1.1 in (x.0.1, x.1)

-- the type of a field, or the result of a method
abbrev sort_in : MemberPart → Bool
sort_in (part.Field t static) = names_short t
sort_in (part.Static result block) = names_short result
sort_in (part.Abstract result) = names_short result
sort_in (part.Body result guard block) = names_short result
sort_in (part.Constructor args block) = true

-- a member that was read
record IsRead (m : Member) : Type 0 where
  name : is_short m.name ≡ true
  params : list_all param_short m.params ≡ true
  sort : sort_in m.part ≡ true
  words : AreWithin (texts m.part) → has_short_words m ≡ true

args_words : (args : Option (List Expr)) (block : List Stmt) → FineArgs args → AllFineStmts block → AreWithin (texts (part.Constructor args block)) → (or_so (list_all expr_is_short) args && list_all stmt_is_short block) ≡ true
args_words None block a h w = block_fine block h (of_second [] (flat_map stmt_texts block) w)
args_words (Some xs) block a h w =
    and_from (list_all expr_is_short xs) (list_all stmt_is_short block) (arguments_fine xs a (of_first (flat_map expr_texts xs) (flat_map stmt_texts block) w)) (block_fine block h (of_second (flat_map expr_texts xs) (flat_map stmt_texts block) w))

read_body : {private : Bool} {m : Member} {xs zs : Tokens} → MemberBody private xs m zs → AreShort xs → AreShort zs × IsRead m
read_body (field {c = c} {name = name} s t h i) w =
    let x = type_short t (read_maybe s w) in
    (x.0.1.1, record { name = named name c h x.0.0; params = refl; sort = x.1; words = λ u. refl })
read_body (static_method {c = c} {name = name} {ts = ts} h r i p b) w =
    let x = result_short r w.1 in
    let y = read_params p x.0.1 in
    let z = read_braces b y.0 in
    (z.0, record { name = named name c i x.0.0; params = y.1; sort = x.1; words = λ u. block_fine ts z.1 u })
read_body (abstract_method {c = c} {name = name} h r i p j) w =
    let x = result_short r w.1 in
    let y = read_params p x.0.1 in
    (y.0.1, record { name = named name c i x.0.0; params = y.1; sort = x.1; words = λ u. refl })
read_body (method_body {c = c} {name = name} {ts = ts} r h p g b) w =
    let x = result_short r w in
    let y = read_params p x.0.1 in
    let z = read_braces b (read_guard g y.0) in
    (z.0, record { name = named name c h x.0.0; params = y.1; sort = x.1; words = λ u. block_fine ts z.1 u })
read_body (constructor {c = c} {name = name} {args = args} {ts = ts} h p i s b) w =
    let y = read_params p w.1 in
    let x = read_super_call s y.0.1 in
    let z = read_block b x.0 tt in
    (z.0, record { name = named name c h w.0; params = y.1; sort = refl; words = λ u. args_words args ts x.1 z.1 u })

read_member : {m : Member} {xs zs : Tokens} → OneMember xs m zs → AreShort xs → AreShort zs × IsRead m
read_member (default_member b) w = read_body b w
read_member (public_member h b) w = read_body b w.1
read_member (private_member h b) w = read_body b w.1

abbrev AreRead : List Member → Type 0
AreRead [] = Unit {0}
AreRead (m ∷ ms) = IsRead m × AreRead ms

one_read : (ms : List Member) (m : Member) → AreRead ms → IsRead m → AreRead (ms ++ m ∷ [])
one_read [] m h k = (k, tt)
one_read (x ∷ ms) m h k = (h.0, one_read ms m h.1 k)

read_members : {ms ns : List Member} {xs zs : Tokens} → Members ms xs ns zs → AreShort xs → AreRead ms → AreShort zs × AreRead ns
read_members (members_end h) w k = (w.1, k)
read_members (members_more {m = m} {ms = ms} g n) w k = let x = read_member g w in read_members n x.0 (one_read ms m k x.1)

read_promise : {m : Member} {xs zs : Tokens} → Promise xs m zs → AreShort xs → AreShort zs × IsRead m
read_promise (promise {c = c} {name = name} a b r h p i) w =
    let x = result_short r (read_maybe b (read_maybe a w)) in
    let y = read_params p x.0.1 in
    (y.0.1, record { name = named name c h x.0.0; params = y.1; sort = x.1; words = λ u. refl })

read_promises : {ms ns : List Member} {xs zs : Tokens} → Promises ms xs ns zs → AreShort xs → AreRead ms → AreShort zs × AreRead ns
read_promises (promises_end h) w k = (w.1, k)
read_promises (promises_more {m = m} {ms = ms} g n) w k = let x = read_promise g w in read_promises n x.0 (one_read ms m k x.1)

-- HEADS

-- a member that was read, with as few parameters as it may have
record IsHeld (m : Member) : Type 0 where
  name : is_short m.name ≡ true
  params : has_short_params (param_types m) ≡ true
  sort : sort_in m.part ≡ true
  words : has_short_words m ≡ true

held : (m : Member) → IsRead m → AreWithin (member_counts m) → IsHeld m
held m h w =
    let counts = counted limits.Parameters (length m.params) ∷ counted limits.Aliases (aliases m.part) ∷ counted limits.Locals (locals m) ∷ counted limits.BodyNodes (written_nodes m.part) ∷ [] in
    let few : length m.params ≤ 8 = of_second (texts m.part) counts w (counted limits.Parameters (length m.params)) here in
    let same : length (param_types m) ≡ length m.params = length-map m.params (λ (p : Param). p.ty) in
    record {
      name = h.name;
      params = and_from (nat_le (length (param_types m)) 200) (list_all names_short (param_types m)) (le-leb (length (param_types m)) 200 (omega (arith, few, same))) (types_short m.params h.params);
      sort = h.sort;
      words = h.words (of_first (texts m.part) counts w);
    }

abbrev AreHeld : List Member → Type 0
AreHeld [] = Unit {0}
AreHeld (m ∷ ms) = IsHeld m × AreHeld ms

all_held : (ms : List Member) → AreRead ms → AreWithin (flat_map member_counts ms) → AreHeld ms
all_held [] h w = tt
all_held (m ∷ ms) h w =
    let rest = flat_map member_counts ms in
    (held m h.0 (of_first (member_counts m) rest w), all_held ms h.1 (of_second (member_counts m) rest w))

with_field : (m : Member) (q : MemberPart) → is_short m.name ≡ true → sort_in q ≡ true → (fs : List _) → list_all field_is_short fs ≡ true → list_all field_is_short (cons_option (field_part m q) fs) ≡ true
with_field m (part.Field t static) n k fs e = and_from (is_short m.name && names_short t) (list_all field_is_short fs) (and_from (is_short m.name) (names_short t) n k) e
with_field m (part.Static result block) n k fs e = e
with_field m (part.Abstract result) n k fs e = e
with_field m (part.Body result guard block) n k fs e = e
with_field m (part.Constructor args block) n k fs e = e

fields_short : (ms : List Member) → AreHeld ms → list_all field_is_short (filter_map as_field ms) ≡ true
fields_short [] h = refl
fields_short (m ∷ ms) h = with_field m m.part h.0.name h.0.sort (filter_map as_field ms) (fields_short ms h.1)

one_method : (m : Member) (result : Ty) → IsHeld m → names_short result ≡ true → (is_short m.name && (has_short_params (param_types m) && names_short result)) ≡ true
one_method m result h k = and_from (is_short m.name) (has_short_params (param_types m) && names_short result) h.name (and_from (has_short_params (param_types m)) (names_short result) h.params k)

with_method : (m : Member) (q : MemberPart) → IsHeld m → sort_in q ≡ true → (ks : List _) → list_all method_is_short ks ≡ true → list_all method_is_short (cons_option (method_part [] m q) ks) ≡ true
with_method m (part.Field t static) h k ks e = e
with_method m (part.Static result block) h k ks e = and_from (is_short m.name && (has_short_params (param_types m) && names_short result)) (list_all method_is_short ks) (one_method m result h k) e
with_method m (part.Abstract result) h k ks e = and_from (is_short m.name && (has_short_params (param_types m) && names_short result)) (list_all method_is_short ks) (one_method m result h k) e
with_method m (part.Body result guard block) h k ks e = and_from (is_short m.name && (has_short_params (param_types m) && names_short result)) (list_all method_is_short ks) (one_method m result h k) e
with_method m (part.Constructor args block) h k ks e = e

methods_short : (ms : List Member) → AreHeld ms → list_all method_is_short (filter_map as_method ms) ≡ true
methods_short [] h = refl
methods_short (m ∷ ms) h = with_method m m.part h.0 h.0.sort (filter_map as_method ms) (methods_short ms h.1)

with_maker : (m : Member) (q : MemberPart) → has_short_params (param_types m) ≡ true → (ts : List (List Ty)) → list_all has_short_params ts ≡ true → list_all has_short_params (cons_option (constructor_part m q) ts) ≡ true
with_maker m (part.Field t static) h ts e = e
with_maker m (part.Static result block) h ts e = e
with_maker m (part.Abstract result) h ts e = e
with_maker m (part.Body result guard block) h ts e = e
with_maker m (part.Constructor args block) h ts e = and_from (has_short_params (param_types m)) (list_all has_short_params ts) h e

makers_short : (ms : List Member) → AreHeld ms → list_all has_short_params (filter_map as_constructor ms) ≡ true
makers_short [] h = refl
makers_short (m ∷ ms) h = with_maker m m.part h.0.params (filter_map as_constructor ms) (makers_short ms h.1)

defaults : (b : Bool) (ts : List (List Ty)) → list_all has_short_params ts ≡ true → list_all has_short_params (or_default b ts) ≡ true
defaults true ts h = h
defaults false [] h = refl
defaults false (t ∷ ts) h = h

words_short : (ms : List Member) → AreHeld ms → list_all has_short_words ms ≡ true
words_short [] h = refl
words_short (m ∷ ms) h = and_from (has_short_words m) (list_all has_short_words ms) h.0.words (words_short ms h.1)

-- what a class extends: Object, where it isn't written
above_short : (b : Bool) (o : Option Word) → or_so is_short o ≡ true → or_so is_short (cond b None (Some (unwrap_or o object))) ≡ true
above_short true o h = refl
above_short false None h = refl
above_short false (Some name) h = h

-- DECLARATIONS

-- a declaration that was read
record DeclRead (d : Decl) : Type 0 where
  name : is_short d.name ≡ true
  above : or_so is_short d.superclass ≡ true
  interfaces : list_all is_short d.interfaces ≡ true
  members : AreRead d.members

decl_short : (d : Decl) → DeclRead d → AreWithin (decl_counts d) → has_short_names d ≡ true
decl_short d h w =
    let all = all_held d.members h.members (of_first (flat_map member_counts d.members) (counted limits.ClassNodes (sum_by member_nodes d.members) ∷ []) w) in
    let named = is_short d.name in
    let above = or_so is_short (superclass_of d) in
    let under = list_all is_short d.interfaces in
    let fields = list_all field_is_short (head d).fields in
    let makers = list_all has_short_params (head d).constructors in
    let methods = list_all method_is_short (head d).methods in
    and_from (head_is_short (head d)) (list_all has_short_words d.members)
    (and_from named (above && (under && (fields && (makers && methods)))) h.name
    (and_from above (under && (fields && (makers && methods))) (above_short d.is_interface d.superclass h.above)
    (and_from under (fields && (makers && methods)) h.interfaces
    (and_from fields (makers && methods) (fields_short d.members all)
    (and_from makers methods (defaults d.is_interface (filter_map as_constructor d.members) (makers_short d.members all)) (methods_short d.members all))))))
    (words_short d.members all)

read_modifier : {a b : Bool} {xs zs : Tokens} → Modifier xs a b zs → AreShort xs → AreShort zs
read_modifier no_modifier w = w
read_modifier (abstract_modifier h) w = w.1
read_modifier (final_modifier h) w = w.1

read_declaration : {d : Decl} {xs zs : Tokens} → Declaration xs d zs → AreShort xs → AreShort zs × DeclRead d
read_declaration (class_decl {c = c} {name = name} a m h i s n j g) w =
    let v = read_modifier m (read_maybe a w) in
    let x = read_super s v.1.1 in
    let y = read_names n x.0 in
    let z = read_members g y.0.1 tt in
    (z.0, record { name = named name c i v.1.0; above = x.1; interfaces = y.1; members = z.1 })
read_declaration (interface_decl {c = c} {name = name} a h i n j g) w =
    let v = read_maybe a w in
    let y = read_names n v.1.1 in
    let z = read_promises g y.0.1 tt in
    (z.0, record { name = named name c i v.1.0; above = refl; interfaces = y.1; members = z.1 })

abbrev DeclsRead : List Decl → Type 0
DeclsRead [] = Unit {0}
DeclsRead (d ∷ ds) = DeclRead d × DeclsRead ds

more_read : (ds : List Decl) (d : Decl) → DeclsRead ds → DeclRead d → DeclsRead (ds ++ d ∷ [])
more_read [] d h k = (k, tt)
more_read (x ∷ ds) d h k = (h.0, more_read ds d h.1 k)

read_declarations : {ds es : List Decl} {xs : Tokens} → MoreDeclarations ds xs es → AreShort xs → DeclsRead ds → DeclsRead es
read_declarations (unit_end h) w k = k
read_declarations (unit_more {d = d} {ds = ds} g m) w k = let x = read_declaration g w in read_declarations m x.0 (more_read ds d k x.1)

read_whole : {xs : Tokens} {u : SourceUnit} → Whole xs u → AreShort xs → DeclsRead u.decls
read_whole (whole {d = d} g m) w = let x = read_declaration g w in read_declarations m x.0 (x.1, tt)

decls_short : (ds : List Decl) → DeclsRead ds → AreWithin (flat_map decl_counts ds) → list_all has_short_names ds ≡ true
decls_short [] h w = refl
decls_short (d ∷ ds) h w =
    let rest = flat_map decl_counts ds in
    and_from (has_short_names d) (list_all has_short_names ds) (decl_short d h.0 (of_first (decl_counts d) rest w)) (decls_short ds h.1 (of_second (decl_counts d) rest w))

pub read_short : ReadIsShort
read_short text tokens unit l p within = decls_short unit.decls (read_whole p.whole (lexed_short l)) (all_within (counts_of unit) within)

pub members_short : ReadMembersAreShort
members_short text tokens unit tree l p within free typed = typed_short unit tree typed free (read_short text tokens unit l p within)
