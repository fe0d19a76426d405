-- How code goes on from a frame that holds the receiver, where its items leave the receiver alone.
use Rattle.std.proofs.Common.{◌≡◌, ℕ, zero, suc, ◌+◌, ◌-◌, ◌≤◌, List, [], ◌∷◌, ◌++◌, Option, Some, None, refl, sym, ◌∙◌, subst}
use Rattle.std.specs.Prelude.{ℤ, Bool, true, false, not, ◌||◌, ◌==◌, slice_get, slice_set, if◌then◌else◌}
use Rattle.std.specs.List.{list_all}
use Rattle.std.proofs.lemmas.Bool.{false≢true}
use Rattle.class_form.proofs.Facts.{both}
use Rattle.class_form.specs.declared.class_file.ClassFile.{ClassFile}
use Rattle.class_form.specs.declared.member.MemberInfo.{MemberInfo}
use Rattle.class_form.specs.declared.member.Code.{Code}
use Rattle.class_form.specs.Constants.{class_name_at}
use Rattle.jp_store.specs.declared.value.Value.{Value}
use Rattle.jp_store.specs.declared.value.Value.TheVariants.{Ref}
use Rattle.jp_store.specs.declared.value.Kind.{Kind}
use Rattle.jp_store.specs.declared.value.TrapKind.{TrapKind}
use Rattle.jp_store.specs.declared.outcome.Outcome.{Outcome}
use Rattle.jp_store.specs.Work.{Op}
use Rattle.jp_does.specs.Does.{Gives, Traps, Ticks, Prints, Shows, Reads, Works, Calls, Stuck, then_do, do_of}
use Rattle.jp_meaning.specs.Does.{Call, Does}
use Rattle.jp_meaning.specs.Expressions.{Locals}
use Rattle.jvm_table.specs.declared.frame.Frame.{Frame}
use Rattle.jvm_table.specs.declared.instr.Instr.TheVariants.{JumpTo, OnConstant, InvokeInterface, Store, Increase}
use Rattle.jvm_table.specs.Decode.{row_at}
use Rattle.jvm_table.specs.Descriptors.{signature_of, places_of}
use Rattle.jvm_table.specs.Constants.{interface_method_in, member_named}
use Rattle.jvm_table.specs.Act.{Act, Moves, ShowsInt, ShowsText, Asks, Effects, Invokes, Fails, with_values, has_room, answered, acted, acts}
use Rattle.code_trace.specs.Calls.{call_in}
use Rattle.code_trace.specs.CodeTrace.{with_read}
use Rattle.code_trace.specs.Follows.{Onward, MayAnswer, Follows}
use Rattle.code_trace.proofs.Follow as follow
use Rattle.code_trace.proofs.Follow.{Gives_as}
use Rattle.code_asm.specs.Items.{Item, Plain, Uses, CallsInterface, Branch, Mark, Names, Stands}
use Rattle.gen_body.specs.Correct.{keeps}

-- a method of a file with its code, where its labels are, how many instructions a tick pays, and its receiver, if it has one
pub record Setting : Type 0 where
  pub file : ClassFile
  pub method : MemberInfo
  pub code : Code
  pub has : method.code ≡ Some code
  pub current : List ℕ
  pub this : class_name_at file file.this_class ≡ Some current
  pub more : ℕ
  pub place : ℕ → ℕ
  pub received : Bool
  pub receiver : ℕ

module _ (w : Setting) where
  abbrev pub run : Frame → Act
  run = acts w.file w.method

  abbrev pub at : ℕ → Locals → List Value → Frame
  at pc env st = record { place = pc; locals = env; stack = record { room = w.code.max_stack; values = st } }

  -- the items stand in the code, and leave the receiver alone
  abbrev pub Standing : ℕ → List Item → ℕ → Type 0
  Standing pc [] to = pc ≡ to
  Standing pc (Plain instr ∷ items) to =
      (next : ℕ) × (row_at w.code.bytes pc ≡ Some (record { instr = instr; next = next })) × Standing next items to × (keeps w.received (Plain instr) ≡ true)
  Standing pc (Uses use_ wanted ∷ items) to =
      (index : ℕ) × (next : ℕ) × (row_at w.code.bytes pc ≡ Some (record { instr = OnConstant use_ index; next = next })) × Names w.file index wanted
      × Standing next items to × (keeps w.received (Uses use_ wanted) ≡ true)
  Standing pc (CallsInterface key signature ∷ items) to =
      (index : ℕ) × (next : ℕ) × (row_at w.code.bytes pc ≡ Some (record { instr = InvokeInterface index (1 + places_of signature.parameters); next = next }))
      × (member_named interface_method_in w.file index ≡ Some key) × (signature_of key.descriptor ≡ Some signature) × Standing next items to
  Standing pc (Branch jump label ∷ items) to =
      (next : ℕ) × (row_at w.code.bytes pc ≡ Some (record { instr = JumpTo jump (w.place label); next = next })) × Standing next items to
  Standing pc (Mark label ∷ items) to = (w.place label ≡ pc) × Standing pc items to

  pub standing : (items : List Item) (pc to : ℕ) → Stands w.file w.code.bytes w.place pc items to → list_all (keeps w.received) items ≡ true → Standing pc items to
  standing [] pc to s all = s
  standing (Plain instr ∷ items) pc to s all = let h = both (keeps w.received (Plain instr)) (list_all (keeps w.received) items) all in (s.0, s.1, standing items s.0 to s.2 h.1, h.0)
  standing (Uses use_ wanted ∷ items) pc to s all =
      let h = both (keeps w.received (Uses use_ wanted)) (list_all (keeps w.received) items) all in (s.0, s.1, s.2, s.3, standing items s.1 to s.4 h.1, h.0)
  standing (CallsInterface key signature ∷ items) pc to s all = (s.0, s.1, s.2, s.3, s.4, standing items s.1 to s.5 all)
  standing (Branch jump label ∷ items) pc to s all = (s.0, s.1, standing items s.0 to s.2 all)
  standing (Mark label ∷ items) pc to s all = (s.0, standing items pc to s.1 all)

  -- a part of the items, and the rest
  pub record Parted (pc : ℕ) (a b : List Item) (to : ℕ) : Type 0 where
    pub mid : ℕ
    pub front : Standing pc a mid
    pub back : Standing mid b to

  pub parted : (a b : List Item) (pc to : ℕ) → Standing pc (a ++ b) to → Parted pc a b to
  parted [] b pc to s = record { mid = pc; front = refl; back = s }
  parted (Plain instr ∷ a) b pc to s = let p = parted a b s.0 to s.2 in record { mid = p.mid; front = (s.0, s.1, p.front, s.3); back = p.back }
  parted (Uses use_ wanted ∷ a) b pc to s = let p = parted a b s.1 to s.4 in record { mid = p.mid; front = (s.0, s.1, s.2, s.3, p.front, s.5); back = p.back }
  parted (CallsInterface key signature ∷ a) b pc to s = let p = parted a b s.1 to s.5 in record { mid = p.mid; front = (s.0, s.1, s.2, s.3, s.4, p.front); back = p.back }
  parted (Branch jump label ∷ a) b pc to s = let p = parted a b s.0 to s.2 in record { mid = p.mid; front = (s.0, s.1, p.front); back = p.back }
  parted (Mark label ∷ a) b pc to s = let p = parted a b pc to s.1 in record { mid = p.mid; front = (s.0, p.front); back = p.back }

  -- the receiver is in local 0, if there is one
  abbrev pub Here : Locals → Type 0
  Here env = w.received ≡ true → slice_get env 0 ≡ Some (Some (Ref w.receiver))

  abbrev pub Held : Frame → Type 0
  Held f = Here f.locals

  -- and is there still
  abbrev pub Held_still : {A : Type 0} → (A → ℕ → Frame → Type 0) → A → ℕ → Frame → Type 0
  Held_still Q a left f = Q a left f × Held f

  -- from a frame that holds the receiver the code does what the evaluation does, and holds it still
  abbrev pub Going : {A : Type 0} → (A → ℕ → Frame → Type 0) → ℕ → Frame → Does A → Type 0
  Going Q b f d = Held f → Follows run w.current w.more (Held_still Q) b f d

  -- a frame under another name
  pub from_here : {A : Type 0} (Q : A → ℕ → Frame → Type 0) (b : ℕ) (f g : Frame) (d : Does A) → f ≡ g → Going Q b g d → Going Q b f d
  from_here Q b f g d e r = subst (λ h. Going Q b h d) (sym e) r

  -- one evaluation after another
  pub seq : {A B : Type 0} (Q : A → ℕ → Frame → Type 0) (R : B → ℕ → Frame → Type 0) (go : A → Does B) → ((a : A) (c : ℕ) (to : Frame) → Q a c to → Going R c to (go a)) → (d : Does A) (b : ℕ) (f : Frame) → Going Q b f d → Going R b f (then_do d go)
  seq Q R go h d b f r held = follow.seq run w.current w.more (Held_still Q) (Held_still R) go (λ a c to q. h a c to q.0 q.1) d b f (r held)

  -- the same evaluation, and more instructions at its end
  pub ending : {A : Type 0} (Q R : A → ℕ → Frame → Type 0) → ((a : A) (c : ℕ) (to : Frame) → Q a c to → Going R c to (Gives a)) → (d : Does A) (b : ℕ) (f : Frame) → Going Q b f d → Going R b f d
  ending Q R h d b f r held = follow.ending run w.current w.more (Held_still Q) (Held_still R) (λ a c to q. h a c to q.0 q.1) d b f (r held)

  -- nothing more is done
  pub stop : {A : Type 0} (Q : A → ℕ → Frame → Type 0) (b : ℕ) (f : Frame) (a : A) → Q a b f → Going Q b f (Gives a)
  stop Q b f a q held = follow.stop run w.current w.more (Held_still Q) b f a (q, held)

  -- one silent instruction
  pub moves : {A : Type 0} (Q : A → ℕ → Frame → Type 0) (b : ℕ) (f to : Frame) (d : Does A) → (Held f → Held to) → 1 ≤ b → run f ≡ Moves to → Going Q (b - 1) to d → Going Q b f d
  moves Q b f to d keep le e r held = follow.moves run w.current w.more (Held_still Q) b f to d le e (r (keep held))

  -- a frame holds its locals with an answer too
  answer_held : {A : Type 0} (Q : A → ℕ → Frame → Type 0) (c : ℕ) (push : Bool) (v : Value) (on : Frame) (d : Does A) → Held on → Onward (answered push v on) d (λ g. Going Q c g d) → Onward (answered push v on) d (λ g. Follows run w.current w.more (Held_still Q) c g d)
  answer_held Q c false v on d held r = r held
  answer_held Q c true v on d held r = by_room (has_room v on) r where
    pushed : Frame
    pushed = with_values (v ∷ on.stack.values) on

    by_room : (x : Bool) → Onward (if x then Some pushed else None) d (λ g. Going Q c g d) → Onward (if x then Some pushed else None) d (λ g. Follows run w.current w.more (Held_still Q) c g d)
    by_room true r = r held
    by_room false r = r

  -- one that does something to the store, or calls
  pub works_on : {A : Type 0} (Q : A → ℕ → Frame → Type 0) (b : ℕ) (f on : Frame) (op : Op) (push : Bool) (d : Value → Does A) → (Held f → Held on) → 1 ≤ b → run f ≡ Effects op push on → ((v : Value) → MayAnswer op v → Onward (answered push v on) (d v) (λ g. Going Q (b - 1) g (d v))) → Going Q b f (Works op d)
  works_on Q b f on op push d keep le e r held = follow.works_on run w.current w.more (Held_still Q) b f on op push d le e (λ v may. answer_held Q (b - 1) push v on (d v) (keep held) (r v may))

  pub calls_on : {A : Type 0} (Q : A → ℕ → Frame → Type 0) (b : ℕ) (f on : Frame) (c : Call) (push : Bool) (d : Value → Does A) → (Held f → Held on) → 1 ≤ b → run f ≡ Invokes (call_in w.current c) push on → ((v : Value) → Onward (answered push v on) (d v) (λ g. Going Q (b - 1) g (d v))) → Going Q b f (Calls c d)
  calls_on Q b f on c push d keep le e r held = follow.calls_on run w.current w.more (Held_still Q) b f on c push d le e (λ v. answer_held Q (b - 1) push v on (d v) (keep held) (r v))

  -- one that prints or reads
  pub shows_on : {A : Type 0} (Q : A → ℕ → Frame → Type 0) (b : ℕ) (f on : Frame) (n : ℤ) (d : Does A) → (Held f → Held on) → 1 ≤ b → run f ≡ ShowsInt n on → Going Q (b - 1) on d → Going Q b f (Prints n d)
  shows_on Q b f on n d keep le e r held = follow.shows_on run w.current w.more (Held_still Q) b f on n d le e (r (keep held))

  pub texts_on : {A : Type 0} (Q : A → ℕ → Frame → Type 0) (b : ℕ) (f on : Frame) (text : List ℕ) (d : Does A) → (Held f → Held on) → 1 ≤ b → run f ≡ ShowsText text on → Going Q (b - 1) on d → Going Q b f (Shows text d)
  texts_on Q b f on text d keep le e r held = follow.texts_on run w.current w.more (Held_still Q) b f on text d le e (r (keep held))

  pub asks_on : {A : Type 0} (Q : A → ℕ → Frame → Type 0) (b : ℕ) (f on : Frame) (d : ℤ → Does A) → (Held f → Held on) → 1 ≤ b → run f ≡ Asks on → ((n : ℤ) → Going Q (b - 1) (with_read n on) (d n)) → Going Q b f (Reads d)
  asks_on Q b f on d keep le e r held = follow.asks_on run w.current w.more (Held_still Q) b f on d le e (λ n. r n (keep held))

  -- a tick behind one silent instruction
  pub ticks_on : {A : Type 0} (Q : A → ℕ → Frame → Type 0) (b : ℕ) (f to : Frame) (d : Does A) → (Held f → Held to) → 1 ≤ b → run f ≡ Moves to → Going Q (b - 1 + w.more) to d → Going Q b f (Ticks d)
  ticks_on Q b f to d keep le e r held = follow.ticks_on run w.current w.more (Held_still Q) b f to d le e (r (keep held))

  -- a trap
  pub fails : {A : Type 0} (Q : A → ℕ → Frame → Type 0) (b : ℕ) (f : Frame) (kind : TrapKind) → 1 ≤ b → run f ≡ Fails kind → Going Q b f (Traps kind)
  fails Q b f kind le e held = follow.fails run w.current w.more (Held_still Q) b f kind le e

  -- an operation that traps or is stuck, or goes on
  pub on_outcome : {A B : Type 0} (P : A → Type 0) (Q : B → ℕ → Frame → Type 0) (b : ℕ) (f : Frame) (r : Outcome A) (act_go : A → Act) (go : A → Does B) → 1 ≤ b → run f ≡ acted r act_go → Gives_as P r → ((a : A) → P a → run f ≡ act_go a → Going Q b f (go a)) → Going Q b f (do_of r go)
  on_outcome P Q b f r act_go go le e p h held = follow.on_outcome run w.current w.more P (Held_still Q) b f r act_go go le e p (λ a p e. h a p e held)

  -- nothing is said of what is stuck
  pub lost : {A : Type 0} (Q : A → ℕ → Frame → Type 0) (b : ℕ) (f : Frame) → Going {A = A} Q b f Stuck
  lost Q b f held = tt

  first_kept : (r : Bool) (slot : ℕ) (env : Locals) (v : Option Value) → (not r || not (slot == 0)) ≡ true → r ≡ true → slice_get (slice_set env slot v) 0 ≡ slice_get env 0
  first_kept true zero env v k e = absurd (false≢true k)
  first_kept true (suc slot) [] v k e = refl
  first_kept true (suc slot) (x ∷ xs) v k e = refl
  first_kept false slot env v k e = absurd (false≢true e)

  -- a store in another local
  pub stored_here : (kind : Kind) (slot : ℕ) (env : Locals) (v : Option Value) → keeps w.received (Plain (Store kind slot)) ≡ true → Here env → Here (slice_set env slot v)
  stored_here kind slot env v k here e = first_kept w.received slot env v k e ∙ here e

  pub increased_here : (slot : ℕ) (by : ℤ) (env : Locals) (v : Option Value) → keeps w.received (Plain (Increase slot by)) ≡ true → Here env → Here (slice_set env slot v)
  increased_here slot by env v k here e = first_kept w.received slot env v k e ∙ here e

  -- a method that calls above its class has a receiver
  pub family_received : (r : Bool) → (r || not true) ≡ true → r ≡ true
  family_received true e = refl
  family_received false e = e
