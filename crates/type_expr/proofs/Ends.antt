-- An expression is seen, once its parts are seen one after the other and its node is settled.
use Rattle.std.proofs.Common.{◌≡◌, ℕ, ◌+◌, ◌<◌, ◌≤◌, List, [], ◌∷◌, ◌++◌, map, take, length, get_or, Option, Some, refl, sym, ap, ◌∙◌, subst, append-nil}
use Rattle.std.proofs.lemmas.List.{map-append, take_more, take_all}
use Rattle.std.proofs.lemmas.Grind.{flat_map-append}
use Rattle.jp_ast.specs.declared.expr.Expr.{Expr}
use Rattle.jp_ast.specs.declared.expr.ExprKind.TheVariants as form
use Rattle.jp_ast.specs.declared.expr.ExprKind.TheOpen as e
use Rattle.jp_pred.specs.Names.{Word}
use Rattle.type_rules.specs.declared.fault.TypeFault.{TypeFault}
use Rattle.type_rules.specs.declared.scope.Scope.{Scope}
use Rattle.type_rules.specs.declared.seen.Role.{Role}
use Rattle.type_rules.specs.declared.seen.Role.TheVariants as role
use Rattle.type_rules.specs.declared.seen.Seen.{Seen}
use Rattle.type_rules.specs.Nodes.{ExprNode, Visit}
use Rattle.type_rules.specs.Table.{faults_of}
use Rattle.type_rules.specs.Expressions.{Part, Parts, argument_of, in_role, seen_all, node_of, visits_all, visits_inside, part_of, part}
use Rattle.type_rules.specs.Typing.{earlier}
use Rattle.type_expr.specs.Settling.{Settles, Sees, SeesAll, parts_in}
use Rattle.type_heads.proofs.FaultLists.{then_faults}
use Rattle.type_expr.proofs.Walks.{spot, whole, part_call_on}

module _ (s : Scope) (r : Role) (x : Expr) (parts : Parts) (old new : Option TypeFault) (found : Seen) (e : part s x r ≡ part_of s x.place r parts) where
  -- without parts
  pub ends : visits_inside parts ≡ [] → Settles s (spot x r) (node_of parts) old new found → Sees s r x old new found
  ends v h = whole s r x parts old old new found e (ap (λ (vs : List Visit). earlier old (faults_of vs)) (sym v)) h

  -- with one
  pub ends_one : (q : Role) (y : Expr) (mid : Option TypeFault) (f : Seen) (node : Seen → ExprNode) → visits_inside parts ≡ (part s y q).visits → node_of parts ≡ node (part s y q).seen →
      Sees s q y old mid f → Settles s (spot x r) (node f) mid new found → Sees s r x old new found
  ends_one q y mid f node v n a h =
      whole s r x parts old mid new found e (a.first ∙ ap (λ (vs : List Visit). earlier old (faults_of vs)) (sym v))
      (subst (λ (m : ExprNode). Settles s (spot x r) m mid new found) (ap node a.seen ∙ sym n) h)

  -- with two
  pub ends_two : (p q : Role) (y z : Expr) (one mid : Option TypeFault) (f g : Seen) (node : Seen → Seen → ExprNode) → visits_inside parts ≡ (part s y p).visits ++ (part s z q).visits →
      node_of parts ≡ node (part s y p).seen (part s z q).seen → Sees s p y old one f → Sees s q z one mid g → Settles s (spot x r) (node f g) mid new found → Sees s r x old new found
  ends_two p q y z one mid f g node v n a b h =
      whole s r x parts old mid new found e (then_faults old one mid (part s y p).visits (part s z q).visits a.first b.first ∙ ap (λ (vs : List Visit). earlier old (faults_of vs)) (sym v))
      (subst (λ (m : ExprNode). Settles s (spot x r) m mid new found) (ap (λ w. node w g) a.seen ∙ (ap (node (part s y p).seen) b.seen ∙ sym n)) h)

  -- with three
  pub ends_three : (p : Role) (t y z : Expr) (one two mid : Option TypeFault) (f g k : Seen) (node : Seen → Seen → Seen → ExprNode) →
      visits_inside parts ≡ (part s t p).visits ++ ((part s y p).visits ++ (part s z p).visits) → node_of parts ≡ node (part s t p).seen (part s y p).seen (part s z p).seen →
      Sees s p t old one f → Sees s p y one two g → Sees s p z two mid k → Settles s (spot x r) (node f g k) mid new found → Sees s r x old new found
  ends_three p t y z one two mid f g k node v n a b c h =
      whole s r x parts old mid new found e
      (then_faults old one mid (part s t p).visits ((part s y p).visits ++ (part s z p).visits) a.first (then_faults one two mid (part s y p).visits (part s z p).visits b.first c.first) ∙ ap (λ (vs : List Visit). earlier old (faults_of vs)) (sym v))
      (subst (λ (m : ExprNode). Settles s (spot x r) m mid new found)
      (ap (λ w. node w g k) a.seen ∙ (ap (λ w. node (part s t p).seen w k) b.seen ∙ (ap (node (part s t p).seen (part s y p).seen) c.seen ∙ sym n))) h)

  -- with a list
  pub ends_list : (q : Role) (xs : List Expr) (mid : Option TypeFault) (fs : List Seen) (node : List Seen → ExprNode) → visits_inside parts ≡ visits_all (parts_in s q xs) →
      node_of parts ≡ node (seen_all (parts_in s q xs)) → SeesAll s q xs old mid fs → Settles s (spot x r) (node fs) mid new found → Sees s r x old new found
  ends_list q xs mid fs node v n a h =
      whole s r x parts old mid new found e (a.first ∙ ap (λ (vs : List Visit). earlier old (faults_of vs)) (sym v))
      (subst (λ (m : ExprNode). Settles s (spot x r) m mid new found) (ap node a.seen ∙ sym n) h)

-- with an object and arguments, in the role that the object says
pub ends_call_on : (s : Scope) (r q : Role) (x y : Expr) (name : Word) (xs : List Expr) (old one mid new : Option TypeFault) (f : Seen) (fs : List Seen) (found : Seen) → x.kind ≡ form.Call (Some y) name xs →
    q ≡ argument_of (Some f) name → Sees s role.BeforeDot y old one f → SeesAll s q xs one mid fs → Settles s (spot x r) (e.Call (Some f) name fs) mid new found → Sees s r x old new found
ends_call_on s r q x y name xs old one mid new f fs found k i a b h =
    let o : Part = part s y role.BeforeDot in
    let w : Role = argument_of (Some o.seen) name in
    let as' : SeesAll s w xs one mid fs = subst (λ (z : Role). SeesAll s z xs one mid fs) (i ∙ ap (λ z. argument_of (Some z) name) a.seen) b in
    whole s r x (e.Call (Some o) name (parts_in s w xs)) old mid new found (part_call_on s r x y name xs k)
    (then_faults old one mid o.visits (visits_all (parts_in s w xs)) a.first as'.first)
    (subst (λ (m : ExprNode). Settles s (spot x r) m mid new found) (ap (λ z. e.Call (Some z) name fs) a.seen ∙ ap (λ zs. e.Call (Some o.seen) name zs) as'.seen) h)

-- LISTS OF EXPRESSIONS

pub none_seen : (s : Scope) (r : Role) (old : Option TypeFault) (found : List Seen) → found ≡ [] → SeesAll s r [] old old found
none_seen s r old found h = record { seen = h; first = refl }

-- one expression more
pub one_more_seen : (s : Scope) (r : Role) (xs : List Expr) (i : ℕ) (x : Expr) (old mid new : Option TypeFault) (found more : List Seen) (f : Seen) → i < length xs → x ≡ get_or xs i x → more ≡ found ++ f ∷ [] →
    SeesAll s r (take i xs) old mid found → Sees s r x mid new f → SeesAll s r (take (i + 1) xs) old new more
one_more_seen s r xs i x old mid new found more f l h m a b =
    let front : take (i + 1) xs ≡ take i xs ++ x ∷ [] = take_more xs i x l ∙ ap (λ y. take i xs ++ y ∷ []) (sym h) in
    let parts : parts_in s r (take i xs ++ x ∷ []) ≡ parts_in s r (take i xs) ++ part s x r ∷ []
    = ap (in_role r) (map-append (part s) (take i xs) (x ∷ [])) ∙ map-append (λ (p : Role → Part). p r) (map (part s) (take i xs)) (part s x ∷ []) in
    let before = parts_in s r (take i xs) in
    let seen : seen_all (before ++ part s x r ∷ []) ≡ seen_all before ++ (part s x r).seen ∷ [] = map-append (λ (p : Part). p.seen) before (part s x r ∷ []) in
    let visits : visits_all (before ++ part s x r ∷ []) ≡ visits_all before ++ ((part s x r).visits ++ []) = flat_map-append (λ (p : Part). p.visits) before (part s x r ∷ []) in
    let last : new ≡ earlier mid (faults_of ((part s x r).visits ++ [])) = b.first ∙ ap (λ (vs : List Visit). earlier mid (faults_of vs)) (sym (append-nil (part s x r).visits)) in
    subst (λ (ys : List Expr). SeesAll s r ys old new more) (sym front) (record {
      seen = m ∙ (ap (λ zs. zs ++ f ∷ []) a.seen ∙ (ap (λ z. seen_all before ++ z ∷ []) b.seen ∙ (sym seen ∙ ap seen_all (sym parts))));
      first = then_faults old mid new (visits_all before) ((part s x r).visits ++ []) a.first last ∙ ap (λ (vs : List Visit). earlier old (faults_of vs)) (sym visits ∙ ap visits_all (sym parts));
    })

-- all of them
pub all_seen : (s : Scope) (r : Role) (xs : List Expr) (i : ℕ) (old new : Option TypeFault) (found : List Seen) → length xs ≤ i → SeesAll s r (take i xs) old new found → SeesAll s r xs old new found
all_seen s r xs i old new found l a = subst (λ (ys : List Expr). SeesAll s r ys old new found) (take_all i xs l) a
