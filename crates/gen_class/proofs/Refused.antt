-- Why a part of a class isn't made is why the whole isn't.
use Rattle.std.proofs.Common.{◌≡◌, ℕ, ◌+◌, ◌<◌, ◌≤◌, true, List, [], length, take, get_or, Option, Some, None, Err, refl, sym, ap, ◌∙◌, subst, arith, inl, inr}
use Rattle.std.specs.Prelude.{slice_get, option_and_then, is_some, codes}
use Rattle.std.proofs.lemmas.List.Sums.{fold_more}
use Rattle.class_form.specs.declared.constant.Const.{Const}
use Rattle.jp_pred.specs.declared.hier.Hier.{Hier}
use Rattle.iface_codec.specs.declared.iface.Iface.{Iface}
use Rattle.iface_codec.specs.declared.iface.IfaceField.{IfaceField}
use Rattle.iface_codec.specs.declared.iface.IfaceMethod.{IfaceMethod}
use Rattle.jp_meaning.specs.declared.unit.TypedPart.{TypedPart}
use Rattle.jp_meaning.specs.declared.unit.TypedPart.TheVariants as part
use Rattle.jp_meaning.specs.declared.unit.TypedMember.{TypedMember}
use Rattle.jp_meaning.specs.declared.unit.TypedClass.{TypedClass}
use Rattle.code_asm.specs.declared.fault.AsmFault.{AsmFault}
use Rattle.code_asm.specs.declared.fault.AsmFault.TheVariants.{Full, TooLong, FarJump, OutOfMemory}
use Rattle.code_asm.specs.Held.{Fails}
use Rattle.code_asm.specs.Lines.{lines_of}
use Rattle.code_asm.specs.Written.{with_lines}
use Rattle.gen_body.specs.Members.{member_code}
use Rattle.gen_code.specs.declared.fault.BodyFault.{BodyFault}
use Rattle.gen_code.specs.declared.fault.BodyFault.TheVariants.{Unfit, Asm}
use Rattle.gen_laws.specs.Compiled.{Name, name_of_method, name_of_part}
use Rattle.gen_member.specs.Laid.{is_declared, CompilesMember}
use Rattle.gen_class.specs.Asked.{with_text, with_name, with_heading, with_fields, with_method, with_member, with_members, front_constants, class_constants}
use Rattle.gen_class.specs.Excuses.{ExcusesMember, ExcusesMethods, is_fit, Excuses}
use Rattle.gen_class.proofs.Fitting.{fails_test}
use Rattle.gen_class.proofs.Grows.{part_grows, one_class_grows, first_of_heading, first_of_member, front_of_member, member_grows, first_of_class, front_of_class, fails_more}

-- A MEMBER

-- a member with a name is declared
pub is_declared_so : (head : Iface) (p : TypedPart) (name : Name) → name_of_part head p ≡ Some name → is_declared head p ≡ true
is_declared_so head (part.Field at) name e = absurd cc
is_declared_so head (part.Method at) name e = by_method (slice_get head.methods at) e where
  by_method : (o : Option IfaceMethod) → option_and_then (λ m. name_of_method m.kind m) o ≡ Some name → is_some o ≡ true
  by_method None e = absurd cc
  by_method (Some method) e = refl
is_declared_so head (part.Constructor at) name e = refl

module _ (hier : Hier) (head : Iface) (list : List Const) (m : TypedMember) where
  -- constants can't be had that are no more than what the member asks for
  pub excused : (fault : AsmFault) (some : List Const) → length some ≤ length (with_member hier head list m) → Fails fault some → ExcusesMember hier head list m (Asm fault)
  excused Full some le h = fails_more Full some (with_member hier head list m) le h
  excused (TooLong bytes) some le h = absurd h
  excused (FarJump by) some le h = absurd h
  excused OutOfMemory some le h = tt

  module _ (name : Name) (named : name_of_part head m.part ≡ Some name) where
    abbrev lines_behind : List Const
    lines_behind = with_lines (with_name list name.name name.descriptor) (lines_of (member_code hier head m).items)

    is_asked : with_member hier head list m ≡ lines_behind
    is_asked = ap (λ (o : Option Name). with_method hier head list m o) named

    -- the name was asked for, then the descriptor
    pub unspelled : (fault : AsmFault) (spelled : List ℕ) → spelled ≡ name.name → Fails fault (with_text list spelled) → ExcusesMember hier head list m (Asm fault)
    unspelled fault spelled e h =
        excused fault (with_text list name.name) (first_of_member hier head list m name named) (subst (λ (b : List ℕ). Fails fault (with_text list b)) e h)

    names_of : (first : List Const) (spelled described : List ℕ) → spelled ≡ name.name → described ≡ name.descriptor → first ≡ with_text list spelled → with_text first described ≡ with_name list name.name name.descriptor
    names_of first spelled described es ed f =
        ap (λ (l : List Const). with_text l described) (f ∙ ap (λ (b : List ℕ). with_text list b) es) ∙ ap (λ (b : List ℕ). with_text (with_text list name.name) b) ed

    pub undescribed : (fault : AsmFault) (first : List Const) (spelled described : List ℕ) → spelled ≡ name.name → described ≡ name.descriptor → first ≡ with_text list spelled → Fails fault (with_text first described) → ExcusesMember hier head list m (Asm fault)
    undescribed fault first spelled described es ed f h =
        excused fault (with_name list name.name name.descriptor) (front_of_member hier head list m name named) (subst (λ (l : List Const). Fails fault l) (names_of first spelled described es ed f) h)

    uncompiled : (new : List Const) (fault : BodyFault) → CompilesMember hier head m (with_name list name.name name.descriptor) new (Err fault) → ExcusesMember hier head list m fault
    uncompiled new Unfit h = (name, named, h)
    uncompiled new (Asm Full) h = subst (λ (l : List Const). 65535 < 1 + length l) (sym is_asked) h.1
    uncompiled new (Asm (TooLong bytes)) h = (name, named, (new, h.0, h.1))
    uncompiled new (Asm (FarJump by)) h = (name, named, (new, h.0, h.1))
    uncompiled new (Asm OutOfMemory) h = tt

    pub not_compiled : (fault : BodyFault) (first second new : List Const) (spelled described : List ℕ) → spelled ≡ name.name → described ≡ name.descriptor → first ≡ with_text list spelled → second ≡ with_text first described
        → CompilesMember hier head m second new (Err fault) → ExcusesMember hier head list m fault
    not_compiled fault first second new spelled described es ed f g h =
        uncompiled new fault (subst (λ (l : List Const). CompilesMember hier head m l new (Err fault)) (g ∙ names_of first spelled described es ed f) h)

    -- the name, the descriptor and the code were added
    pub asked_of : (first second third : List Const) (spelled described : List ℕ) → spelled ≡ name.name → described ≡ name.descriptor → first ≡ with_text list spelled → second ≡ with_text first described
        → third ≡ with_lines second (lines_of (member_code hier head m).items) → third ≡ with_member hier head list m
    asked_of first second third spelled described es ed f g h =
        h ∙ ap (λ (l : List Const). with_lines l (lines_of (member_code hier head m).items)) (g ∙ names_of first spelled described es ed f) ∙ sym is_asked

  -- a member without statements asks for nothing
  pub unasked : name_of_part head m.part ≡ None → list ≡ with_member hier head list m
  unasked named = sym (ap (λ (o : Option Name). with_method hier head list m o) named)

-- THE MEMBERS OF A CLASS

module _ (hier : Hier) (c : TypedClass) (list : List Const) where
  pub excused_all : (fault : AsmFault) (some : List Const) → length some ≤ length (with_members hier c.head list c.members) → Fails fault some → ExcusesMethods hier c list (Asm fault)
  excused_all Full some le h = fails_more Full some (with_members hier c.head list c.members) le h
  excused_all (TooLong bytes) some le h = absurd h
  excused_all (FarJump by) some le h = absurd h
  excused_all OutOfMemory some le h = tt

  module _ (i : ℕ) (m : TypedMember) (seen : List TypedMember) (same : seen ≡ c.members) (known : i < length seen) (found : m ≡ get_or seen i m) (there : slice_get c.members i ≡ Some m) (before : List Const) (asked : before ≡ with_members hier c.head list (take i c.members)) where
    within : i < length c.members
    within = subst (λ (ms : List TypedMember). i < length ms) same known

    is : m ≡ get_or c.members i m
    is = subst (λ (ms : List TypedMember). m ≡ get_or ms i m) same found

    moved : (fault : BodyFault) → ExcusesMember hier c.head before m fault → ExcusesMember hier c.head (with_members hier c.head list (take i c.members)) m fault
    moved fault h = subst (λ (l : List Const). ExcusesMember hier c.head l m fault) asked h

    pub one_refused : (fault : BodyFault) → ExcusesMember hier c.head before m fault → ExcusesMethods hier c list fault
    one_refused Unfit h = (i, m, there, moved Unfit h)
    one_refused (Asm Full) h =
        fails_more Full (with_member hier c.head (with_members hier c.head list (take i c.members)) m) (with_members hier c.head list c.members)
        (part_grows (with_member hier c.head) (member_grows hier c.head) list c.members i m within is) (moved (Asm Full) h)
    one_refused (Asm (TooLong bytes)) h = (i, m, there, moved (Asm (TooLong bytes)) h)
    one_refused (Asm (FarJump by)) h = (i, m, there, moved (Asm (FarJump by)) h)
    one_refused (Asm OutOfMemory) h = tt

    pub one_asked : (after : List Const) → after ≡ with_member hier c.head before m → after ≡ with_members hier c.head list (take (i + 1) c.members)
    one_asked after e =
        e ∙ ap (λ (l : List Const). with_member hier c.head l m) asked ∙ ap (λ (x : TypedMember). with_member hier c.head (with_members hier c.head list (take i c.members)) x) is
        ∙ sym (fold_more (with_member hier c.head) list c.members i m within)

-- A CLASS

module _ (hier : Hier) (c : TypedClass) where
  abbrev code_text : List Const
  code_text = with_text [] (codes "Code")

  -- none of the parts in front of the methods can be had
  module _ (none : List Const) (empty : none ≡ []) (fault : AsmFault) where
    pub no_text : Fails fault (with_text none (codes "Code")) → ExcusesMethods hier c (front_constants c.head) (Asm fault)
    no_text h =
        let a = one_class_grows code_text c.head.name in let b = first_of_heading code_text c.head in let d = first_of_class hier c.head code_text c.members in
        excused_all hier c (front_constants c.head) fault code_text (omega (arith, a, b, d)) (subst (λ (l : List Const). Fails fault (with_text l (codes "Code"))) empty h)

    module _ (text : List Const) (begins : text ≡ with_text none (codes "Code")) where
      starts : text ≡ code_text
      starts = begins ∙ ap (λ (l : List Const). with_text l (codes "Code")) empty

      pub no_heading : Fails fault (with_heading text c.head) → ExcusesMethods hier c (front_constants c.head) (Asm fault)
      no_heading h =
          excused_all hier c (front_constants c.head) fault (with_heading code_text c.head) (first_of_class hier c.head code_text c.members) (subst (λ (l : List Const). Fails fault (with_heading l c.head)) starts h)

      pub no_fields : (first : List Const) (fields : List IfaceField) → first ≡ with_heading text c.head → fields ≡ c.head.fields → Fails fault (with_fields first fields) → ExcusesMethods hier c (front_constants c.head) (Asm fault)
      no_fields first fields e f h =
          excused_all hier c (front_constants c.head) fault (front_constants c.head) (front_of_class hier c.head (front_constants c.head) c.members)
          (subst (λ (l : List Const). Fails fault l)
          (ap (λ (fs : List IfaceField). with_fields first fs) f ∙ ap (λ (l : List Const). with_fields l c.head.fields) (e ∙ ap (λ (l : List Const). with_heading l c.head) starts)) h)

  -- the parts were added, one after the other
  module _ (none text first second : List Const) (fields : List IfaceField) (empty : none ≡ []) (begins : text ≡ with_text none (codes "Code")) (headed : first ≡ with_heading text c.head) (all : fields ≡ c.head.fields) (added : second ≡ with_fields first fields) where
    pub code_asked : text ≡ with_text [] (codes "Code")
    code_asked = begins ∙ ap (λ (l : List Const). with_text l (codes "Code")) empty

    front_asked : second ≡ front_constants c.head
    front_asked =
        added ∙ ap (λ (fs : List IfaceField). with_fields first fs) all ∙ ap (λ (l : List Const). with_fields l c.head.fields) (headed ∙ ap (λ (l : List Const). with_heading l c.head) code_asked)

    pub no_members : (fault : BodyFault) → ExcusesMethods hier c second fault → ExcusesMethods hier c (front_constants c.head) fault
    no_members fault h = subst (λ (l : List Const). ExcusesMethods hier c l fault) front_asked h

    pub all_asked : (last : List Const) → last ≡ with_members hier c.head second c.members → last ≡ class_constants hier c
    all_asked last e = e ∙ ap (λ (l : List Const). with_members hier c.head l c.members) front_asked

  pub no_methods : (fault : BodyFault) → ExcusesMethods hier c (front_constants c.head) fault → Excuses hier c fault
  no_methods Unfit h = inl h
  no_methods (Asm Full) h = h
  no_methods (Asm (TooLong bytes)) h = h
  no_methods (Asm (FarJump by)) h = h
  no_methods (Asm OutOfMemory) h = tt

  pub ill_formed : (P : Type 0) → (is_fit hier c ≡ true → P) → (P → ⊥) → Excuses hier c Unfit
  ill_formed P f g = inr (fails_test (is_fit hier c) P f g)
