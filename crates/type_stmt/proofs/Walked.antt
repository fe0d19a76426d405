-- A statement is walked as its node is settled, once its parts are walked.
use Rattle.std.proofs.Common.{◌≡◌, ℕ, List, [], ◌∷◌, ◌++◌, map, Bool, true, false, cond, Option, Some, None, refl, sym, ap, ◌∙◌, subst, append-nil}
use Rattle.std.specs.Option.{option_map}
use Rattle.jp_pred.specs.declared.ty.Ty.{Ty}
use Rattle.jp_pred.specs.Names.{Word}
use Rattle.jp_ast.specs.declared.token.Place.{Place}
use Rattle.jp_ast.specs.declared.expr.Expr.{Expr}
use Rattle.jp_ast.specs.declared.stmt.Stmt.{Stmt}
use Rattle.jp_ast.specs.declared.stmt.StmtKind.TheVariants as run
use Rattle.jp_meaning.specs.declared.stmt.TypedStmt.{TypedStmt}
use Rattle.jp_meaning.specs.declared.stmt.TypedStmtKind.{TypedStmtKind}
use Rattle.jp_meaning.specs.declared.stmt.TypedStmtKind.TheVariants as made
use Rattle.type_rules.specs.declared.fault.TypeFault.{TypeFault}
use Rattle.type_rules.specs.declared.scope.Scope.{Scope}
use Rattle.type_rules.specs.declared.seen.Role.TheVariants as role
use Rattle.type_rules.specs.declared.seen.Seen.{Seen}
use Rattle.type_rules.specs.Nodes.{StmtNode, Silent, Declares, Tests, Jumps, Returns, Assigns, Bumps, Runs, AtStmt}
use Rattle.type_rules.specs.Written.{form_of}
use Rattle.type_rules.specs.Table.{own_faults, faults_of}
use Rattle.type_rules.specs.Expressions.{part}
use Rattle.type_rules.specs.Statements.{Flow, waiting, Step, Block, Empty, Local, If, While, For, Jump, Return, Assign, Bump, Run, in_loop, after_init, visits_option, flow_visits, test_node, tree_of, tree_option, node_in, visits_inside, resolved, statement_at, flow_of, flow}
use Rattle.type_rules.specs.Typing.{earlier}
use Rattle.type_heads.specs.Faults.{is_none_of}
use Rattle.type_heads.proofs.FaultLists.{then_faults}
use Rattle.type_expr.specs.Settling.{Sees}
use Rattle.type_stmt.specs.Kinds.{local_kind, if_kind, while_kind, for_kind, assign_kind}
use Rattle.type_stmt.specs.Settling.{faults_at, unless_faulty, Settles}
use Rattle.type_stmt.specs.Walking.{SeesOption, Walks, WalksOption, WalksAll}
use Rattle.type_flow.proofs.Shapes.{flow_block, flow_empty, flow_local, flow_if, flow_while, flow_for, flow_break, flow_continue, flow_return, flow_assign, flow_bump, flow_alone}

-- ONE NODE

settled : (fs : List TypeFault) (o : Option TypedStmt) → cond (is_none_of fs) o None ≡ elim fs [ [] ↦ o | _ ↦ None ]
settled [] o = refl
settled (f ∷ fs) o = refl

-- the faults of a node are those of its one visit
one_visit : (c : Scope) (p : Place) (n : StmtNode) → faults_at c p n ≡ faults_of (record { place = p; node = AtStmt c n } ∷ [])
unfolding faults_at
one_visit c p n = sym (append-nil (own_faults p (AtStmt c n)))

made_by : (c : Scope) (p : Place) (step : Step) → unless_faulty c p (node_in c step) (resolved c step) ≡ (flow_of step p c).made
unfolding faults_at
made_by c p step = settled (own_faults p (AtStmt c (node_in c step))) (option_map (statement_at p) (resolved c step))

-- a statement of these parts
whole : (c : Scope) (x : Stmt) (step : Step) (old mid new : Option TypeFault) (result : Option TypedStmt) → flow x ≡ flow_of step x.place →
    mid ≡ earlier old (faults_of (visits_inside c step)) → Settles c x.place (node_in c step) mid new (resolved c step) result → Walks c x old new result
whole c x step old mid new result e m h = record {
  made_is = h.made_is ∙ (made_by c x.place step ∙ ap (λ (f : Scope → Flow). (f c).made) (sym e));
  first = then_faults old mid new (visits_inside c step) _ m (h.first ∙ ap (earlier mid) (one_visit c x.place (node_in c step))) ∙ ap (λ (f : Scope → Flow). earlier old (faults_of (f c).visits)) (sym e);
}

-- a node that breaks no rule
settles_silent : (c : Scope) (p : Place) (old : Option TypeFault) (kind : Option TypedStmtKind) → Settles c p Silent old old kind (option_map (statement_at p) kind)
unfolding faults_at
settles_silent c p old kind = record { made_is = refl; first = refl }

-- STATEMENTS OF EACH FORM

pub walks_block : (c : Scope) (x : Stmt) (xs : List Stmt) (old new : Option TypeFault) (all : Option (List TypedStmt)) (result : Option TypedStmt) → x.kind ≡ run.Block xs →
    WalksAll c xs old new all → result ≡ option_map (statement_at x.place) (option_map (λ ts. made.Block ts) all) → Walks c x old new result
walks_block c x xs old new all result h w e =
    whole c x (Block (map flow xs)) old new new result (flow_block x xs h) w.first
    (subst (λ (o : Option TypedStmt). Settles c x.place Silent new new (resolved c (Block (map flow xs))) o)
    (sym (e ∙ ap (λ (o : Option (List TypedStmt)). option_map (statement_at x.place) (option_map (λ ts. made.Block ts) o)) w.made_is))
    (settles_silent c x.place new (resolved c (Block (map flow xs)))))

pub walks_empty : (c : Scope) (x : Stmt) (old : Option TypeFault) → x.kind ≡ run.Empty → Walks c x old old (Some (statement_at x.place made.Empty))
walks_empty c x old h = whole c x Empty old old old _ (flow_empty x h) refl (settles_silent c x.place old (Some made.Empty))

pub walks_local : (c : Scope) (x : Stmt) (t : Ty) (name : Word) (value : Option Expr) (old mid new : Option TypeFault) (v : Option Seen) (result : Option TypedStmt) → x.kind ≡ run.Local t name value →
    SeesOption c value old mid v → Settles c x.place (Declares t name v) mid new (local_kind c t v) result → Walks c x old new result
walks_local c x t name value old mid new v result h s n =
    whole c x (Local t name (option_map waiting value)) old mid new result (flow_local x t name value h) s.first
    (subst (λ (o : Option Seen). Settles c x.place (Declares t name o) mid new (local_kind c t o) result) s.seen n)

pub walks_if : (c : Scope) (x : Stmt) (test : Expr) (a : Stmt) (b : Option Stmt) (old one two mid new : Option TypeFault) (t : Seen) (first : Option TypedStmt) (second : Option (Option TypedStmt)) (result : Option TypedStmt) →
    x.kind ≡ run.If test a b → Sees c role.Operand test old one t → Walks c a one two first → WalksOption c b two mid second → Settles c x.place (Tests t) mid new (if_kind t first second) result → Walks c x old new result
walks_if c x test a b old one two mid new t first second result h s w v n =
    let step : Step = If (waiting test) (flow a) (option_map flow b) in
    whole c x step old mid new result (flow_if x test a b h)
    (then_faults old one mid (part c test role.Operand).visits ((flow a c).visits ++ flow_visits (option_map flow b) c) s.first (then_faults one two mid (flow a c).visits (flow_visits (option_map flow b) c) w.first v.first))
    (subst (λ (o : Option (Option TypedStmt)). Settles c x.place (node_in c step) mid new (if_kind (part c test role.Operand).seen (flow a c).made o) result) v.made_is
    (subst (λ (o : Option TypedStmt). Settles c x.place (node_in c step) mid new (if_kind (part c test role.Operand).seen o second) result) w.made_is
    (subst (λ (o : Seen). Settles c x.place (Tests o) mid new (if_kind o first second) result) s.seen n)))

pub walks_while : (c : Scope) (x : Stmt) (test : Expr) (a : Stmt) (old one mid new : Option TypeFault) (t : Seen) (body : Option TypedStmt) (result : Option TypedStmt) →
    x.kind ≡ run.While test a → Sees c role.Operand test old one t → Walks (in_loop c) a one mid body → Settles c x.place (Tests t) mid new (while_kind t body) result → Walks c x old new result
walks_while c x test a old one mid new t body result h s w n =
    let step : Step = While (waiting test) (flow a) in
    whole c x step old mid new result (flow_while x test a h) (then_faults old one mid (part c test role.Operand).visits (flow a (in_loop c)).visits s.first w.first)
    (subst (λ (o : Option TypedStmt). Settles c x.place (node_in c step) mid new (while_kind (part c test role.Operand).seen o) result) w.made_is
    (subst (λ (o : Seen). Settles c x.place (Tests o) mid new (while_kind o body) result) s.seen n))

pub walks_for : (c d : Scope) (x : Stmt) (init : Option Stmt) (test : Option Expr) (change : Option Stmt) (a : Stmt) (old one two three mid new : Option TypeFault)
    (i : Option (Option TypedStmt)) (t : Option Seen) (ch : Option (Option TypedStmt)) (body : Option TypedStmt) (result : Option TypedStmt) →
    x.kind ≡ run.For init test change a → d ≡ after_init (option_map flow init) c → WalksOption c init old one i → SeesOption d test one two t → WalksOption d change two three ch → Walks (in_loop d) a three mid body →
    Settles c x.place (test_node t) mid new (for_kind i t ch body) result → Walks c x old new result
walks_for c d x init test change a old one two three mid new i t ch body result h e u s v w n =
    let begin : Scope = after_init (option_map flow init) c in
    let step : Step = For (option_map flow init) (option_map waiting test) (option_map flow change) (flow a) in
    let s' = subst (λ (z : Scope). SeesOption z test one two t) e s in
    let v' = subst (λ (z : Scope). WalksOption z change two three ch) e v in
    let w' = subst (λ (z : Scope). Walks (in_loop z) a three mid body) e w in
    whole c x step old mid new result (flow_for x init test change a h)
    (then_faults old one mid (flow_visits (option_map flow init) c) (visits_option begin (option_map waiting test) ++ (flow_visits (option_map flow change) begin ++ (flow a (in_loop begin)).visits)) u.first
    (then_faults one two mid (visits_option begin (option_map waiting test)) (flow_visits (option_map flow change) begin ++ (flow a (in_loop begin)).visits) s'.first
    (then_faults two three mid (flow_visits (option_map flow change) begin) (flow a (in_loop begin)).visits v'.first w'.first)))
    (subst (λ (k : Option TypedStmtKind). Settles c x.place (node_in c step) mid new k result)
    (λ j. for_kind (u.made_is j) (s'.seen j) (v'.made_is j) (w'.made_is j))
    (subst (λ (o : Option Seen). Settles c x.place (test_node o) mid new (for_kind i t ch body) result) s'.seen n))

pub walks_break : (c : Scope) (x : Stmt) (old new : Option TypeFault) (result : Option TypedStmt) → x.kind ≡ run.Break → Settles c x.place Jumps old new (Some made.Break) result → Walks c x old new result
walks_break c x old new result h n = whole c x (Jump true) old old new result (flow_break x h) refl n

pub walks_continue : (c : Scope) (x : Stmt) (old new : Option TypeFault) (result : Option TypedStmt) → x.kind ≡ run.Continue → Settles c x.place Jumps old new (Some made.Continue) result → Walks c x old new result
walks_continue c x old new result h n = whole c x (Jump false) old old new result (flow_continue x h) refl n

pub walks_return : (c : Scope) (x : Stmt) (value : Option Expr) (old mid new : Option TypeFault) (v : Option Seen) (result : Option TypedStmt) → x.kind ≡ run.Return value →
    SeesOption c value old mid v → Settles c x.place (Returns v) mid new (option_map (λ z. made.Return z) (tree_option v)) result → Walks c x old new result
walks_return c x value old mid new v result h s n =
    whole c x (Return (option_map waiting value)) old mid new result (flow_return x value h) s.first
    (subst (λ (o : Option Seen). Settles c x.place (Returns o) mid new (option_map (λ z. made.Return z) (tree_option o)) result) s.seen n)

pub walks_assign : (c : Scope) (x : Stmt) (y : Expr) (sign : ℕ) (z : Expr) (old one mid new : Option TypeFault) (l r : Seen) (result : Option TypedStmt) → x.kind ≡ run.Assign y sign z →
    Sees c role.Operand y old one l → Sees c role.Operand z one mid r → Settles c x.place (Assigns (form_of y) l sign r) mid new (assign_kind l sign r) result → Walks c x old new result
walks_assign c x y sign z old one mid new l r result h s u n =
    whole c x (Assign (waiting y) sign (waiting z)) old mid new result (flow_assign x y sign z h) (then_faults old one mid (part c y role.Operand).visits (part c z role.Operand).visits s.first u.first)
    (subst (λ (o : Seen). Settles c x.place (Assigns (form_of y) (part c y role.Operand).seen sign o) mid new (assign_kind (part c y role.Operand).seen sign o) result) u.seen
    (subst (λ (o : Seen). Settles c x.place (Assigns (form_of y) o sign r) mid new (assign_kind o sign r) result) s.seen n))

pub walks_bump : (c : Scope) (x : Stmt) (y : Expr) (up : Bool) (old mid new : Option TypeFault) (l : Seen) (result : Option TypedStmt) → x.kind ≡ run.Bump y up →
    Sees c role.Operand y old mid l → Settles c x.place (Bumps (form_of y) l) mid new (option_map (λ z. made.Bump z up) (tree_of l)) result → Walks c x old new result
walks_bump c x y up old mid new l result h s n =
    whole c x (Bump (waiting y) up) old mid new result (flow_bump x y up h) s.first
    (subst (λ (o : Seen). Settles c x.place (Bumps (form_of y) o) mid new (option_map (λ z. made.Bump z up) (tree_of o)) result) s.seen n)

pub walks_alone : (c : Scope) (x : Stmt) (y : Expr) (old mid new : Option TypeFault) (l : Seen) (result : Option TypedStmt) → x.kind ≡ run.Run y →
    Sees c role.Alone y old mid l → Settles c x.place (Runs (form_of y)) mid new (option_map (λ z. made.Run z) (tree_of l)) result → Walks c x old new result
walks_alone c x y old mid new l result h s n =
    whole c x (Run (waiting y)) old mid new result (flow_alone x y h) s.first
    (subst (λ (o : Seen). Settles c x.place (Runs (form_of y)) mid new (option_map (λ z. made.Run z) (tree_of o)) result) s.seen n)

-- IN THE SCOPES THAT THE PARTS LEAVE

pub if_walked : (c d e : Scope) (x : Stmt) (test : Expr) (a : Stmt) (b : Option Stmt) (old one two mid new : Option TypeFault) (t : Seen) (first : Option TypedStmt) (second : Option (Option TypedStmt)) (result : Option TypedStmt) →
    x.kind ≡ run.If test a b → Sees c role.Operand test old one t → Walks c a one two first → d ≡ c → WalksOption d b two mid second → e ≡ d → Settles e x.place (Tests t) mid new (if_kind t first second) result → Walks c x old new result
if_walked c d e x test a b old one two mid new t first second result h s w p v q n =
    walks_if c x test a b old one two mid new t first second result h s w (subst (λ (z : Scope). WalksOption z b two mid second) p v)
    (subst (λ (z : Scope). Settles z x.place (Tests t) mid new (if_kind t first second) result) (q ∙ p) n)

pub while_walked : (c d : Scope) (x : Stmt) (test : Expr) (a : Stmt) (old one mid new : Option TypeFault) (t : Seen) (body : Option TypedStmt) (result : Option TypedStmt) →
    x.kind ≡ run.While test a → Sees c role.Operand test old one t → Walks (in_loop c) a one mid body → d ≡ c → Settles d x.place (Tests t) mid new (while_kind t body) result → Walks c x old new result
while_walked c d x test a old one mid new t body result h s w p n =
    walks_while c x test a old one mid new t body result h s w (subst (λ (z : Scope). Settles z x.place (Tests t) mid new (while_kind t body) result) p n)

pub for_walked : (c d e f : Scope) (x : Stmt) (init : Option Stmt) (test : Option Expr) (change : Option Stmt) (a : Stmt) (old one two three mid new : Option TypeFault)
    (i : Option (Option TypedStmt)) (t : Option Seen) (ch : Option (Option TypedStmt)) (body : Option TypedStmt) (result : Option TypedStmt) →
    x.kind ≡ run.For init test change a → WalksOption c init old one i → d ≡ after_init (option_map flow init) c → SeesOption d test one two t → WalksOption d change two three ch → e ≡ d → Walks (in_loop e) a three mid body →
    f ≡ c → Settles f x.place (test_node t) mid new (for_kind i t ch body) result → Walks c x old new result
for_walked c d e f x init test change a old one two three mid new i t ch body result h u p s v q w r n =
    walks_for c d x init test change a old one two three mid new i t ch body result h p u s v (subst (λ (z : Scope). Walks (in_loop z) a three mid body) q w)
    (subst (λ (z : Scope). Settles z x.place (test_node t) mid new (for_kind i t ch body) result) r n)

-- a statement that may be left out
pub option_not_walked : (c : Scope) (x : Option Stmt) (old : Option TypeFault) → x ≡ None → WalksOption c x old old (Some None)
option_not_walked c x old e = subst (λ (z : Option Stmt). WalksOption c z old old (Some None)) (sym e) (record { made_is = refl; first = refl })

pub option_walked : (c : Scope) (x : Option Stmt) (y : Stmt) (old new : Option TypeFault) (one : Option TypedStmt) (result : Option (Option TypedStmt)) → x ≡ Some y → Walks c y old new one → result ≡ option_map Some one → WalksOption c x old new result
option_walked c x y old new one result e w r =
    subst (λ (z : Option Stmt). WalksOption c z old new result) (sym e) (record { made_is = r ∙ ap (option_map Some) w.made_is; first = w.first })
