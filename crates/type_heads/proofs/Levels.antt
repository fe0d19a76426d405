-- Names that were met: in which order they stand makes no difference, and those of a list are met one after the other.
use Rattle.std.proofs.Common.{◌≡◌, ℕ, zero, suc, ◌+◌, ◌<◌, ◌≤◌, List, [], ◌∷◌, ◌++◌, length, map, take, drop, get_or, Bool, true, false, cond, Option, Some, None, refl, sym, ◌∙◌, ap, append-nil, append_assoc, arith, length-append}
use Rattle.std.specs.Prelude.{◌||◌}
use Rattle.std.specs.List.{flat_map, filter_map}
use Rattle.std.specs.Option.{option_map_or}
use Rattle.std.proofs.lemmas.List.{at_drop_more, map-append, drop_at}
use Rattle.std.proofs.lemmas.List.Elements.{filter_map-append}
use Rattle.std.proofs.Math.Seq.{drop-append_seam, take-append_seam}
use Rattle.std.proofs.lemmas.List.{take-append-drop}
use Rattle.std.specs.Borrow.{Bor}
use Rattle.std.proofs.Math.ListN.{get_or-map, get_or-append}
use Rattle.jp_pred.specs.Names.{Word, same}
use Rattle.iface_codec.specs.declared.iface.Iface.{Iface}
use Rattle.type_rules.specs.Types.{is_among}
use Rattle.type_rules.specs.Heads.{head_of}
use Rattle.type_rules.specs.Lookups.{climb, unmet, interfaces_of, breadth_first, class_names, interfaces_above}
use Rattle.type_heads.specs.Supertypes.{classes_at, words_at}

-- THE ORDER OF WHAT WAS MET

or_turned : (a b c : Bool) → (a || (b || c)) ≡ (b || (a || c))
or_turned true true c = refl
or_turned true false c = refl
or_turned false b c = refl

abbrev AreSame : List Word → List Word → Type 0
AreSame ms ns = (x : Word) → is_among x ms ≡ is_among x ns

last_is_first : (n : Word) (ms : List Word) → AreSame (n ∷ ms) (ms ++ n ∷ [])
last_is_first n [] x = refl
last_is_first n (m ∷ ms) x = or_turned (same n x) (same m x) (is_among x ms) ∙ ap (λ b. same m x || b) (last_is_first n ms x)

one_more : (n : Word) (ms ns : List Word) → AreSame ms ns → AreSame (n ∷ ms) (n ∷ ns)
one_more n ms ns e x = ap (λ b. same n x || b) (e x)

unmet_same : (ms ns xs : List Word) → AreSame ms ns → unmet ms xs ≡ unmet ns xs
unmet_same ms ns [] e = refl
unmet_same ms ns (x ∷ xs) e =
    ap (λ b. cond b (unmet ms xs) (x ∷ unmet (x ∷ ms) xs)) (e x)
    ∙ (ap (λ l. cond (is_among x ns) l (x ∷ unmet (x ∷ ms) xs)) (unmet_same ms ns xs e)
    ∙ ap (λ l. cond (is_among x ns) (unmet ns xs) (x ∷ l)) (unmet_same (x ∷ ms) (x ∷ ns) xs (one_more x ms ns e)))

-- NAMES ONE AFTER THE OTHER

-- a name that wasn't met
pub one_met : (ms xs : List Word) (x : Word) → is_among x ms ≡ false → (ms ++ x ∷ []) ++ unmet (ms ++ x ∷ []) xs ≡ ms ++ unmet ms (x ∷ xs)
one_met ms xs x e =
    append_assoc ms (x ∷ []) (unmet (ms ++ x ∷ []) xs)
    ∙ (ap (λ l. ms ++ (x ∷ l)) (sym (unmet_same (x ∷ ms) (ms ++ x ∷ []) xs (last_is_first x ms)))
    ∙ ap (λ l. ms ++ l) (sym (ap (λ b. cond b (unmet ms xs) (x ∷ unmet (x ∷ ms) xs)) e)))

-- one that was
pub one_skipped : (ms xs : List Word) (x : Word) → is_among x ms ≡ true → ms ++ unmet ms xs ≡ ms ++ unmet ms (x ∷ xs)
one_skipped ms xs x e = ap (λ l. ms ++ l) (sym (ap (λ b. cond b (unmet ms xs) (x ∷ unmet (x ∷ ms) xs)) e))

-- a list, and what comes behind it
pub all_met : (ms xs ys : List Word) → (ms ++ unmet ms xs) ++ unmet (ms ++ unmet ms xs) ys ≡ ms ++ unmet ms (xs ++ ys)
all_met ms [] ys = ap (λ l. l ++ unmet l ys) (append-nil ms)
all_met ms (x ∷ xs) ys = elim (is_among x ms) as (λ b. is_among x ms ≡ b → (ms ++ unmet ms (x ∷ xs)) ++ unmet (ms ++ unmet ms (x ∷ xs)) ys ≡ ms ++ unmet ms (x ∷ (xs ++ ys))) [
  | true ↦ λ e. ap (λ l. l ++ unmet l ys) (sym (one_skipped ms xs x e)) ∙ (all_met ms xs ys ∙ one_skipped ms (xs ++ ys) x e)
  | false ↦ λ e. ap (λ l. l ++ unmet l ys) (sym (one_met ms xs x e)) ∙ (all_met (ms ++ x ∷ []) xs ys ∙ one_met ms (xs ++ ys) x e)
] refl

-- ONE OF A LIST MORE

pub at_place : {A : Type 0} (xs : List A) (i : ℕ) (x : A) → i < length xs → x ≡ get_or xs i x → drop i xs ≡ x ∷ drop (i + 1) xs
at_place xs i x l e = at_drop_more (λ ys. ys) xs i x l ∙ ap (λ y. y ∷ drop (i + 1) xs) (sym e)

pub next_name : (ms new xs : List Word) (i : ℕ) (x : Word) → i < length xs → x ≡ get_or xs i x → new ≡ ms ++ unmet ms (x ∷ []) → new ++ unmet new (drop (i + 1) xs) ≡ ms ++ unmet ms (drop i xs)
next_name ms new xs i x l e f =
    ap (λ l. l ++ unmet l (drop (i + 1) xs)) f ∙ (all_met ms (x ∷ []) (drop (i + 1) xs) ∙ ap (λ l. ms ++ unmet ms l) (sym (at_place xs i x l e)))

pub next_class : (ms new : List Word) (cs : List (Bor Iface)) (i : ℕ) (x : Bor Iface) (names : List Word) → i < length cs → x ≡ get_or cs i x → names ≡ x.now.interfaces → new ≡ ms ++ unmet ms names →
    new ++ unmet new (flat_map (λ h. h.interfaces) (classes_at (drop (i + 1) cs))) ≡ ms ++ unmet ms (flat_map (λ h. h.interfaces) (classes_at (drop i cs)))
next_class ms new cs i x names l e n f =
    let rest = flat_map (λ (h : Iface). h.interfaces) (classes_at (drop (i + 1) cs)) in
    ap (λ l. l ++ unmet l rest) (f ∙ ap (λ l. ms ++ unmet ms l) n)
    ∙ (all_met ms x.now.interfaces rest ∙ ap (λ (l : List (Bor Iface)). ms ++ unmet ms (flat_map (λ h. h.interfaces) (classes_at l))) (sym (at_place cs i x l e)))

pub next_of_level : (heads : List Iface) (ms new xs : List Word) (i : ℕ) (x : Word) → i < length xs → x ≡ get_or xs i x → new ≡ ms ++ unmet ms (interfaces_of heads x) →
    new ++ unmet new (flat_map (interfaces_of heads) (drop (i + 1) xs)) ≡ ms ++ unmet ms (flat_map (interfaces_of heads) (drop i xs))
next_of_level heads ms new xs i x l e f =
    let rest = flat_map (interfaces_of heads) (drop (i + 1) xs) in
    ap (λ l. l ++ unmet l rest) f ∙ (all_met ms (interfaces_of heads x) rest ∙ ap (λ l. ms ++ unmet ms (flat_map (interfaces_of heads) l)) (sym (at_place xs i x l e)))

pub next_above : (heads above higher : List Iface) (xs : List Word) (i : ℕ) (x : Word) → i < length xs → x ≡ get_or xs i x → higher ≡ above ++ filter_map (head_of heads) (x ∷ []) →
    higher ++ filter_map (head_of heads) (drop (i + 1) xs) ≡ above ++ filter_map (head_of heads) (drop i xs)
next_above heads above higher xs i x l e f =
    let rest = drop (i + 1) xs in
    ap (λ (l : List Iface). l ++ filter_map (head_of heads) rest) f
    ∙ (append_assoc above (filter_map (head_of heads) (x ∷ [])) (filter_map (head_of heads) rest)
    ∙ (ap (λ (l : List Iface). above ++ l) (sym (filter_map-append (head_of heads) (x ∷ []) rest))
    ∙ ap (λ l. above ++ filter_map (head_of heads) l) (sym (at_place xs i x l e))))

-- a name that stood at its place before more were added
pub name_there : (items old : List (Bor Word)) (more : List Word) (i : ℕ) (x : Bor Word) → words_at items ≡ words_at old ++ more → i < length (words_at old) → x ≡ get_or items i x → x.now ≡ get_or (words_at old) i x.now
name_there items old more i x e l f =
    ap (λ (r : Bor Word). r.now) f
    ∙ (sym (get_or-map (λ (r : Bor Word). r.now) items i x) ∙ (ap (λ ws. get_or ws i x.now) e ∙ get_or-append (words_at old) more x.now i l))

-- A LINE OF CLASSES

climb_same : (n : ℕ) (heads : List Iface) (ms ns : List Word) (o : Option Word) → AreSame ms ns → climb n heads ms o ≡ climb n heads ns o
climb_same zero heads ms ns o e = refl
climb_same (suc n) heads ms ns None e = refl
climb_same (suc n) heads ms ns (Some name) e =
    ap (λ b. cond b [] (option_map_or (λ (h : Iface). h ∷ climb n heads (h.name ∷ ms) h.superclass) (head_of heads name) [])) (e name)
    ∙ ap (cond (is_among name ns) []) (by_head (head_of heads name) (λ h. climb_same n heads (h.name ∷ ms) (h.name ∷ ns) h.superclass (one_more h.name ms ns e))) where
      by_head : (p : Option Iface) → ((h : Iface) → climb n heads (h.name ∷ ms) h.superclass ≡ climb n heads (h.name ∷ ns) h.superclass) →
          option_map_or (λ (h : Iface). h ∷ climb n heads (h.name ∷ ms) h.superclass) p [] ≡ option_map_or (λ (h : Iface). h ∷ climb n heads (h.name ∷ ns) h.superclass) p []
      by_head None f = refl
      by_head (Some h) f = ap (λ (l : List Iface). h ∷ l) (f h)

pub none_behind : (n : ℕ) (heads : List Iface) (ms : List Word) → climb n heads ms None ≡ []
none_behind zero heads ms = refl
none_behind (suc n) heads ms = refl

pub met_behind : (n : ℕ) (heads : List Iface) (ms : List Word) (name : Word) → is_among name ms ≡ true → climb n heads ms (Some name) ≡ []
met_behind zero heads ms name e = refl
met_behind (suc n) heads ms name e = ap (λ b. cond b [] (option_map_or (λ (h : Iface). h ∷ climb n heads (h.name ∷ ms) h.superclass) (head_of heads name) [])) e

if_nothing : {A : Type 0} (b : Bool) → cond b (let xs : List A = [] in xs) [] ≡ []
if_nothing true = refl
if_nothing false = refl

pub unknown_behind : (n : ℕ) (heads : List Iface) (ms : List Word) (name : Word) → head_of heads name ≡ None → climb n heads ms (Some name) ≡ []
unknown_behind zero heads ms name e = refl
unknown_behind (suc n) heads ms name e =
    ap (λ (o : Option Iface). cond (is_among name ms) [] (option_map_or (λ (h : Iface). h ∷ climb n heads (h.name ∷ ms) h.superclass) o [])) e ∙ if_nothing (is_among name ms)

pub class_behind : (n m : ℕ) (heads : List Iface) (cs : List Iface) (name : Word) (h : Iface) → n ≡ suc m → is_among name (class_names cs) ≡ false → head_of heads name ≡ Some h →
    (cs ++ h ∷ []) ++ climb m heads (class_names (cs ++ h ∷ [])) h.superclass ≡ cs ++ climb n heads (class_names cs) (Some name)
class_behind n m heads cs name h k i e =
    append_assoc cs (h ∷ []) (climb m heads (class_names (cs ++ h ∷ [])) h.superclass)
    ∙ (ap (λ ms. cs ++ (h ∷ climb m heads ms h.superclass)) (map-append (λ (c : Iface). c.name) cs (h ∷ []))
    ∙ (ap (λ l. cs ++ (h ∷ l)) (sym (climb_same m heads (h.name ∷ class_names cs) (class_names cs ++ h.name ∷ []) h.superclass (last_is_first h.name (class_names cs))))
    ∙ ap (λ l. cs ++ l) (sym (ap (λ (j : ℕ). climb j heads (class_names cs) (Some name)) k
    ∙ (ap (λ b. cond b [] (option_map_or (λ (g : Iface). g ∷ climb m heads (g.name ∷ class_names cs) g.superclass) (head_of heads name) [])) i
    ∙ ap (λ (o : Option Iface). option_map_or (λ (g : Iface). g ∷ climb m heads (g.name ∷ class_names cs) g.superclass) o []) e)))))

-- LEVELS

bare_level : (n : ℕ) (heads : List Iface) (ms : List Word) → breadth_first n heads ms [] ≡ []
bare_level zero heads ms = refl
bare_level (suc n) heads ms = refl

split_level : (m : ℕ) (heads : List Iface) (ms now : List Word) (above : List Iface) →
    (above ++ filter_map (head_of heads) now) ++ filter_map (head_of heads) (breadth_first m heads (ms ++ now) (unmet (ms ++ now) (flat_map (interfaces_of heads) now)))
    ≡ above ++ filter_map (head_of heads) (breadth_first (suc m) heads ms now)
split_level m heads ms [] above =
    ap (λ l. (above ++ []) ++ filter_map (head_of heads) l) (bare_level m heads (ms ++ [])) ∙ append-nil (above ++ [])
split_level m heads ms (x ∷ xs) above =
    let rest = breadth_first m heads (ms ++ (x ∷ xs)) (unmet (ms ++ (x ∷ xs)) (flat_map (interfaces_of heads) (x ∷ xs))) in
    append_assoc above (filter_map (head_of heads) (x ∷ xs)) (filter_map (head_of heads) rest)
    ∙ ap (λ l. above ++ l) (sym (filter_map-append (head_of heads) (x ∷ xs) rest))

one_level : (n m begin : ℕ) (heads : List Iface) (ms more : List Word) (above higher : List Iface) → n ≡ suc m →
    more ≡ ms ++ unmet ms (flat_map (interfaces_of heads) (drop begin ms)) → higher ≡ above ++ filter_map (head_of heads) (drop begin ms) →
    higher ++ filter_map (head_of heads) (breadth_first m heads (take (length ms) more) (drop (length ms) more))
    ≡ above ++ filter_map (head_of heads) (breadth_first n heads (take begin ms) (drop begin ms))
one_level n m begin heads ms more above higher k e f =
    let now = drop begin ms in
    let fresh = unmet ms (flat_map (interfaces_of heads) now) in
    ap (λ (l : List Iface). l ++ filter_map (head_of heads) (breadth_first m heads (take (length ms) more) (drop (length ms) more))) f
    ∙ (ap (λ (l : List Word). (above ++ filter_map (head_of heads) now) ++ filter_map (head_of heads) (breadth_first m heads (take (length ms) l) (drop (length ms) l))) e
    ∙ (ap (λ (l : List Word). (above ++ filter_map (head_of heads) now) ++ filter_map (head_of heads) (breadth_first m heads l (drop (length ms) (ms ++ fresh)))) (take-append_seam ms fresh)
    ∙ (ap (λ (l : List Word). (above ++ filter_map (head_of heads) now) ++ filter_map (head_of heads) (breadth_first m heads ms l)) (drop-append_seam ms fresh)
    ∙ (ap (λ (l : List Word). (above ++ filter_map (head_of heads) now) ++ filter_map (head_of heads) (breadth_first m heads l (unmet l (flat_map (interfaces_of heads) now)))) (sym (take-append-drop begin ms))
    ∙ (split_level m heads (take begin ms) now above
    ∙ ap (λ (j : ℕ). above ++ filter_map (head_of heads) (breadth_first j heads (take begin ms) now)) (sym k))))))

-- one level more
pub next_level : (n m begin end : ℕ) (heads : List Iface) (ms more : List Word) (above higher : List Iface) → n ≡ suc m → end ≡ length ms →
    more ≡ ms ++ unmet ms (flat_map (interfaces_of heads) (drop begin ms)) → higher ≡ above ++ filter_map (head_of heads) (drop begin ms) →
    higher ++ filter_map (head_of heads) (breadth_first m heads (take end more) (drop end more))
    ≡ above ++ filter_map (head_of heads) (breadth_first n heads (take begin ms) (drop begin ms))
next_level n m begin end heads ms more above higher k z e f =
    ap (λ (j : ℕ). higher ++ filter_map (head_of heads) (breadth_first m heads (take j more) (drop j more))) z ∙ one_level n m begin heads ms more above higher k e f

pub no_shorter : (ms more : List Word) (end : ℕ) → end ≡ length ms → (rest : List Word) → more ≡ ms ++ rest → end ≤ length more
no_shorter ms more end z rest e = omega (arith, ap length e, length-append ms rest)

pub first_level : (heads cs : List Iface) (n begin : ℕ) (names ms : List Word) → names ≡ class_names cs → begin ≡ length names → n ≡ length heads → ms ≡ names ++ unmet names (flat_map (λ h. h.interfaces) cs) →
    filter_map (head_of heads) (breadth_first n heads (take begin ms) (drop begin ms)) ≡ interfaces_above heads cs
first_level heads cs n begin names ms e z k f =
    let fresh = λ (l : List Word). unmet l (flat_map (λ (h : Iface). h.interfaces) cs) in
    ap (λ (j : ℕ). filter_map (head_of heads) (breadth_first j heads (take begin ms) (drop begin ms))) k
    ∙ (ap (λ (j : ℕ). filter_map (head_of heads) (breadth_first (length heads) heads (take j ms) (drop j ms))) z
    ∙ (ap (λ (l : List Word). filter_map (head_of heads) (breadth_first (length heads) heads (take (length names) l) (drop (length names) l))) f
    ∙ (ap (λ (l : List Word). filter_map (head_of heads) (breadth_first (length heads) heads l (drop (length names) (names ++ fresh names)))) (take-append_seam names (fresh names))
    ∙ (ap (λ (l : List Word). filter_map (head_of heads) (breadth_first (length heads) heads names l)) (drop-append_seam names (fresh names))
    ∙ ap (λ (l : List Word). filter_map (head_of heads) (breadth_first (length heads) heads l (fresh l))) e))))

-- behind the last level nothing more is looked at
pub no_level : (heads : List Iface) (n : ℕ) (ms now : List Word) (above : List Iface) → n ≡ zero → above ≡ above ++ filter_map (head_of heads) (breadth_first n heads ms now)
no_level heads n ms now above e = sym (append-nil above) ∙ ap (λ (j : ℕ). above ++ filter_map (head_of heads) (breadth_first j heads ms now)) (sym e)

pub ends : {A : Type 0} (xs ys : List A) → ys ≡ [] → xs ≡ xs ++ ys
ends xs ys e = sym (append-nil xs) ∙ ap (λ l. xs ++ l) (sym e)
