-- The turns of calls, by what is found on the way.
use Rattle.std.proofs.Common.{◌≡◌, ℕ, Bool, true, false, List, [], ◌∷◌, Option, Some, None, refl, sym, ap, ◌∙◌}
use Rattle.std.specs.Prelude.{option_and_then, codes, if◌then◌else◌}
use Rattle.std.specs.Option.{option_map}
use Rattle.std.specs.Str.{bytes_eq}
use Rattle.std.proofs.lemmas.Option.{none-some}
use Rattle.class_form.specs.declared.class_file.ClassFile.{ClassFile}
use Rattle.class_form.specs.Constants.{class_name_at}
use Rattle.jp_store.specs.declared.value.Value.{Value}
use Rattle.jp_store.specs.declared.value.Value.TheVariants.{Int, Long, Null, Ref, Text}
use Rattle.jp_store.specs.declared.value.Kind.TheVariants.{Reference}
use Rattle.jp_store.specs.Arith.{is_kind}
use Rattle.jp_store.specs.Classes.{Key}
use Rattle.jvm_table.specs.declared.frame.Frame.{Frame}
use Rattle.jvm_table.specs.Descriptors.{Signature, signature_of}
use Rattle.jvm_table.specs.Act.{Act, Moves, Target, StaticMethod, VirtualMethod, Constructor, MethodAbove, on_found, on_pop, on_receiver, popped, invoked, args_taken, calls, calls_virtual, special_target, where_so, calls_special, is_object_init}
use Rattle.jvm_step.specs.declared.state.State.{State}
use Rattle.jvm_link.specs.Links.{signed, static_of}
use Rattle.jvm_calls.specs.Passing.{is_null}
use Rattle.jvm_step.specs.Turn.{turn, no_row, called, entry, found_by, is_on_null}

-- what isn't found has no row
pub none_found : {A : Type 0} (files : List ClassFile) (st : State) (o : Option A) (go : A → Act) → o ≡ None → turn files st (on_found o go) ≡ no_row st
none_found {A} files st o go e = let P : Option A → Act = λ m. on_found m go in ap (λ m. turn files st (P m)) e

pub some_found : {A : Type 0} (files : List ClassFile) (st : State) (o : Option A) (a : A) (go : A → Act) → o ≡ Some a → turn files st (on_found o go) ≡ turn files st (go a)
some_found {A} files st o a go e = let P : Option A → Act = λ m. on_found m go in ap (λ m. turn files st (P m)) e

-- the arguments of a call
pub no_signature : (files : List ClassFile) (st : State) (d : List ℕ) (f : Frame) (go : Signature → List Value → Frame → Act) → signature_of d ≡ None → turn files st (invoked d f go) ≡ no_row st
no_signature files st d f go e = none_found files st (signature_of d) (λ s. on_found (args_taken s.parameters f) (λ r. go s r.0 r.1)) e

pub no_arguments : (files : List ClassFile) (st : State) (d : List ℕ) (f : Frame) (go : Signature → List Value → Frame → Act) (s : Signature) → signature_of d ≡ Some s → args_taken s.parameters f ≡ None → turn files st (invoked d f go) ≡ no_row st
no_arguments files st d f go s e a =
    some_found files st (signature_of d) s (λ s. on_found (args_taken s.parameters f) (λ r. go s r.0 r.1)) e
    ∙ none_found files st (args_taken s.parameters f) (λ r. go s r.0 r.1) a

pub arguments : (files : List ClassFile) (st : State) (d : List ℕ) (f g : Frame) (go : Signature → List Value → Frame → Act) (s : Signature) (args : List Value) → signature_of d ≡ Some s → args_taken s.parameters f ≡ Some (args, g) → turn files st (invoked d f go) ≡ turn files st (go s args g)
arguments files st d f g go s args e a =
    some_found files st (signature_of d) s (λ s. on_found (args_taken s.parameters f) (λ r. go s r.0 r.1)) e
    ∙ some_found files st (args_taken s.parameters f) (args, g) (λ r. go s r.0 r.1) a

-- a static method has no receiver
not_on_null : (key : Key) (args : List Value) → is_on_null (StaticMethod key) args ≡ false
not_on_null key [] = refl
not_on_null key (Int n ∷ more) = refl
not_on_null key (Long n ∷ more) = refl
not_on_null key (Null ∷ more) = refl
not_on_null key (Ref o ∷ more) = refl
not_on_null key (Text t ∷ more) = refl

pub calls_found : (files : List ClassFile) (st : State) (key : Key) (s : Signature) (args : List Value) (g : Frame) (found : Option (ℕ × ℕ)) → found ≡ found_by files st.heap (StaticMethod key) args → turn files st (calls (StaticMethod key) s args g) ≡ called st false g (option_and_then (entry files true args) found)
calls_found files st key s args g found e =
    ap (λ b. called st b g (option_and_then (entry files true args) (found_by files st.heap (StaticMethod key) args))) (not_on_null key args)
    ∙ ap (λ o. called st false g (option_and_then (entry files true args) o)) (sym e)

pub static_call : (files : List ClassFile) (st : State) (named : Option Key) (key : Key) (f g : Frame) (s : Signature) (args : List Value) (found : Option (ℕ × ℕ)) → named ≡ Some key → signature_of key.descriptor ≡ Some s → args_taken s.parameters f ≡ Some (args, g) → found ≡ found_by files st.heap (StaticMethod key) args → turn files st (on_found named (λ key. invoked key.descriptor f (calls (StaticMethod key)))) ≡ called st false g (option_and_then (entry files true args) found)
static_call files st named key f g s args found n e a m =
    some_found files st named key (λ key. invoked key.descriptor f (calls (StaticMethod key))) n
    ∙ arguments files st key.descriptor f g (calls (StaticMethod key)) s args e a
    ∙ calls_found files st key s args g found m

-- a call by its receiver
abbrev by_class : Key → Signature → List Value → Frame → Act
by_class key s args g = on_pop g (λ r h. on_receiver r (calls (VirtualMethod key.name key.descriptor) s (r ∷ args) h))

pub by_receiver : (files : List ClassFile) (st : State) (key : Key) (f g h : Frame) (s : Signature) (args all : List Value) (r : Value) (o : ℕ) (found : Option (ℕ × ℕ)) → signature_of key.descriptor ≡ Some s → args_taken s.parameters f ≡ Some (args, g) → popped g.stack.values g ≡ Some (r, h) → r ≡ Ref o → all ≡ r ∷ args → found ≡ found_by files st.heap (VirtualMethod key.name key.descriptor) (Ref o ∷ args) → turn files st (calls_virtual key f) ≡ called st false h (option_and_then (entry files false all) found)
by_receiver files st key f g h s args all r o found e a p i w m =
    arguments files st key.descriptor f g (by_class key) s args e a
    ∙ some_found files st (popped g.stack.values g) (r, h) (λ q. on_receiver q.0 (calls (VirtualMethod key.name key.descriptor) s (q.0 ∷ args) q.1)) p
    ∙ ap (λ v. turn files st (on_receiver v (calls (VirtualMethod key.name key.descriptor) s (v ∷ args) h))) i
    ∙ ap (λ x. called st false h (option_and_then (entry files false (Ref o ∷ args)) x)) (sym m)
    ∙ ap (λ l. called st false h (option_and_then (entry files false l) found)) (ap (λ v. v ∷ args) (sym i) ∙ sym w)

-- what `invokespecial` does with a target, which may be none
abbrev special : Option Target → Key → Frame → Act
special target key f =
    on_found target (λ t. invoked key.descriptor f (λ s args g. on_pop g (λ r h. where_so (is_kind Reference r) (calls t s (r ∷ args) h))))

abbrev below : Target → Signature → List Value → Frame → Act
below t s args g = on_pop g (λ r h. where_so (is_kind Reference r) (calls t s (r ∷ args) h))

pub special_unsigned : (files : List ClassFile) (st : State) (t : Option Target) (key : Key) (f : Frame) → signature_of key.descriptor ≡ None → turn files st (special t key f) ≡ no_row st
special_unsigned files st None key f e = refl
special_unsigned files st (Some t) key f e = no_signature files st key.descriptor f (below t) e

pub special_untaken : (files : List ClassFile) (st : State) (t : Option Target) (key : Key) (f : Frame) (s : Signature) → signature_of key.descriptor ≡ Some s → args_taken s.parameters f ≡ None → turn files st (special t key f) ≡ no_row st
special_untaken files st None key f s e a = refl
special_untaken files st (Some t) key f s e a = no_arguments files st key.descriptor f (below t) s e a

pub special_alone : (files : List ClassFile) (st : State) (t : Option Target) (key : Key) (f g : Frame) (s : Signature) (args : List Value) → signature_of key.descriptor ≡ Some s → args_taken s.parameters f ≡ Some (args, g) → popped g.stack.values g ≡ None → turn files st (special t key f) ≡ no_row st
special_alone files st None key f g s args e a p = refl
special_alone files st (Some t) key f g s args e a p =
    arguments files st key.descriptor f g (below t) s args e a
    ∙ none_found files st (popped g.stack.values g) (λ q. where_so (is_kind Reference q.0) (calls t s (q.0 ∷ args) q.1)) p

received : (files : List ClassFile) (st : State) (t : Target) (key : Key) (f g h : Frame) (s : Signature) (args : List Value) (r : Value) → signature_of key.descriptor ≡ Some s → args_taken s.parameters f ≡ Some (args, g) → popped g.stack.values g ≡ Some (r, h) → turn files st (special (Some t) key f) ≡ turn files st (where_so (is_kind Reference r) (calls t s (r ∷ args) h))
received files st t key f g h s args r e a p =
    arguments files st key.descriptor f g (below t) s args e a
    ∙ some_found files st (popped g.stack.values g) (r, h) (λ q. where_so (is_kind Reference q.0) (calls t s (q.0 ∷ args) q.1)) p

pub special_other : (files : List ClassFile) (st : State) (t : Option Target) (key : Key) (f g h : Frame) (s : Signature) (args : List Value) (r : Value) → signature_of key.descriptor ≡ Some s → args_taken s.parameters f ≡ Some (args, g) → popped g.stack.values g ≡ Some (r, h) → is_kind Reference r ≡ false → turn files st (special t key f) ≡ no_row st
special_other files st None key f g h s args r e a p k = refl
special_other files st (Some t) key f g h s args r e a p k =
    received files st t key f g h s args r e a p ∙ ap (λ b. turn files st (where_so b (calls t s (r ∷ args) h))) k

null_constructor : (key : Key) (r : Value) (args : List Value) → is_on_null (Constructor key) (r ∷ args) ≡ is_null r
null_constructor key (Int n) args = refl
null_constructor key (Long n) args = refl
null_constructor key Null args = refl
null_constructor key (Ref o) args = refl
null_constructor key (Text t) args = refl

null_above : (class name descriptor : List ℕ) (r : Value) (args : List Value) → is_on_null (MethodAbove class name descriptor) (r ∷ args) ≡ is_null r
null_above class name descriptor (Int n) args = refl
null_above class name descriptor (Long n) args = refl
null_above class name descriptor Null args = refl
null_above class name descriptor (Ref o) args = refl
null_above class name descriptor (Text t) args = refl

by_target : (files : List ClassFile) (st : State) (constructs : Bool) (current : Option (List ℕ)) (key : Key) (f g h : Frame) (s : Signature) (args : List Value) (r : Value) (found : Option (ℕ × ℕ)) → signature_of key.descriptor ≡ Some s → args_taken s.parameters f ≡ Some (args, g) → popped g.stack.values g ≡ Some (r, h) → is_kind Reference r ≡ true → found ≡ option_and_then (λ target. found_by files st.heap target (r ∷ args)) (if constructs then Some (Constructor key) else option_map (λ class. MethodAbove class key.name key.descriptor) current) → turn files st (special (if constructs then Some (Constructor key) else option_map (λ class. MethodAbove class key.name key.descriptor) current) key f) ≡ called st (is_null r) h (option_and_then (entry files false (r ∷ args)) found)
by_target files st true current key f g h s args r found e a p k m =
    received files st (Constructor key) key f g h s args r e a p
    ∙ ap (λ b. turn files st (where_so b (calls (Constructor key) s (r ∷ args) h))) k
    ∙ ap (λ b. called st b h (option_and_then (entry files false (r ∷ args)) (found_by files st.heap (Constructor key) (r ∷ args)))) (null_constructor key r args)
    ∙ ap (λ o. called st (is_null r) h (option_and_then (entry files false (r ∷ args)) o)) (sym m)
by_target files st false None key f g h s args r found e a p k m =
    ap (λ o. called st (is_null r) h (option_and_then (entry files false (r ∷ args)) o)) (sym m)
by_target files st false (Some class) key f g h s args r found e a p k m =
    received files st (MethodAbove class key.name key.descriptor) key f g h s args r e a p
    ∙ ap (λ b. turn files st (where_so b (calls (MethodAbove class key.name key.descriptor) s (r ∷ args) h))) k
    ∙ ap (λ b. called st b h (option_and_then (entry files false (r ∷ args)) (found_by files st.heap (MethodAbove class key.name key.descriptor) (r ∷ args)))) (null_above class key.name key.descriptor r args)
    ∙ ap (λ o. called st (is_null r) h (option_and_then (entry files false (r ∷ args)) o)) (sym m)

pub special_found : (files : List ClassFile) (st : State) (file : ClassFile) (key : Key) (f g h : Frame) (s : Signature) (args : List Value) (r : Value) (found : Option (ℕ × ℕ)) → signature_of key.descriptor ≡ Some s → args_taken s.parameters f ≡ Some (args, g) → popped g.stack.values g ≡ Some (r, h) → is_kind Reference r ≡ true → found ≡ option_and_then (λ target. found_by files st.heap target (r ∷ args)) (special_target file key) → turn files st (special (special_target file key) key f) ≡ called st (is_null r) h (option_and_then (entry files false (r ∷ args)) found)
special_found files st file key f g h s args r found e a p k m =
    by_target files st (bytes_eq key.name (codes "<init>")) (class_name_at file file.this_class) key f g h s args r found e a p k m

-- a call of Object's constructor, or of another method
pub calls_other : (files : List ClassFile) (st : State) (file : ClassFile) (key : Key) (f : Frame) → is_object_init key ≡ false → turn files st (calls_special file key f) ≡ turn files st (special (special_target file key) key f)
calls_other files st file key f e =
    ap (λ b. turn files st (if b then on_pop f (λ r g. on_receiver r (Moves g)) else special (special_target file key) key f)) e

pub calls_init : (files : List ClassFile) (st : State) (file : ClassFile) (key : Key) (f : Frame) → is_object_init key ≡ true → turn files st (calls_special file key f) ≡ turn files st (on_pop f (λ r g. on_receiver r (Moves g)))
calls_init files st file key f e =
    ap (λ b. turn files st (if b then on_pop f (λ r g. on_receiver r (Moves g)) else special (special_target file key) key f)) e

pub special_call : (files : List ClassFile) (st : State) (file : ClassFile) (named : Option Key) (key : Key) (f g h : Frame) (s : Signature) (args all : List Value) (r : Value) (null : Bool) (found : Option (ℕ × ℕ)) → named ≡ Some key → is_object_init key ≡ false → signature_of key.descriptor ≡ Some s → args_taken s.parameters f ≡ Some (args, g) → popped g.stack.values g ≡ Some (r, h) → is_kind Reference r ≡ true → all ≡ r ∷ args → null ≡ is_null r → found ≡ option_and_then (λ target. found_by files st.heap target (r ∷ args)) (special_target file key) → turn files st (on_found named (λ key. calls_special file key f)) ≡ called st null h (option_and_then (entry files false all) found)
special_call files st file named key f g h s args all r null found n i e a p k w u m =
    some_found files st named key (λ key. calls_special file key f) n
    ∙ calls_other files st file key f i
    ∙ special_found files st file key f g h s args r found e a p k m
    ∙ ap (λ b. called st b h (option_and_then (entry files false (r ∷ args)) found)) (sym u)
    ∙ ap (λ l. called st null h (option_and_then (entry files false l) found)) (sym w)

-- a static call by what its constant names
pub static_unsigned : (files : List ClassFile) (st : State) (named : Option Key) (f : Frame) → option_and_then signed named ≡ None → turn files st (on_found named (λ key. invoked key.descriptor f (calls (StaticMethod key)))) ≡ no_row st
static_unsigned files st None f e = refl
static_unsigned files st (Some key) f e = no_signature files st key.descriptor f (calls (StaticMethod key)) e

pub static_untaken : (files : List ClassFile) (st : State) (named : Option Key) (f : Frame) (s : Signature) → option_and_then signed named ≡ Some s → args_taken s.parameters f ≡ None → turn files st (on_found named (λ key. invoked key.descriptor f (calls (StaticMethod key)))) ≡ no_row st
static_untaken files st None f s e a = refl
static_untaken files st (Some key) f s e a = no_arguments files st key.descriptor f (calls (StaticMethod key)) s e a

pub static_linked : (files : List ClassFile) (st : State) (named : Option Key) (f g : Frame) (s : Signature) (args : List Value) (found : Option (ℕ × ℕ)) → option_and_then signed named ≡ Some s → args_taken s.parameters f ≡ Some (args, g) → found ≡ option_and_then (static_of files st.heap args) named → turn files st (on_found named (λ key. invoked key.descriptor f (calls (StaticMethod key)))) ≡ called st false g (option_and_then (entry files true args) found)
static_linked files st None f g s args found e a m = absurd (none-some s e)
static_linked files st (Some key) f g s args found e a m = static_call files st (Some key) key f g s args found refl e a m

-- a special call with no receiver, or with one that is no reference
pub special_call_alone : (files : List ClassFile) (st : State) (file : ClassFile) (named : Option Key) (key : Key) (f g : Frame) (s : Signature) (args : List Value) → named ≡ Some key → is_object_init key ≡ false → signature_of key.descriptor ≡ Some s → args_taken s.parameters f ≡ Some (args, g) → popped g.stack.values g ≡ None → turn files st (on_found named (λ key. calls_special file key f)) ≡ no_row st
special_call_alone files st file named key f g s args n i e a p =
    some_found files st named key (λ key. calls_special file key f) n
    ∙ calls_other files st file key f i
    ∙ special_alone files st (special_target file key) key f g s args e a p

pub special_call_other : (files : List ClassFile) (st : State) (file : ClassFile) (named : Option Key) (key : Key) (f g h : Frame) (s : Signature) (args : List Value) (r : Value) → named ≡ Some key → is_object_init key ≡ false → signature_of key.descriptor ≡ Some s → args_taken s.parameters f ≡ Some (args, g) → popped g.stack.values g ≡ Some (r, h) → is_kind Reference r ≡ false → turn files st (on_found named (λ key. calls_special file key f)) ≡ no_row st
special_call_other files st file named key f g h s args r n i e a p k =
    some_found files st named key (λ key. calls_special file key f) n
    ∙ calls_other files st file key f i
    ∙ special_other files st (special_target file key) key f g h s args r e a p k
