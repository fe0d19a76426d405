-- The constructor of the superclass that a constructor calls.
use Rattle.std.proofs.Common.{◌≡◌, ℕ, List, [], ◌∷◌, map, length, Bool, true, Option, Some, None, refl, sym, ap, ◌∙◌}
use Rattle.std.specs.Prelude.{if◌then◌else◌, Result, IfOk}
use Rattle.std.specs.List.{flat_map, filter_map}
use Rattle.std.specs.Option.{option_map, option_map_or, option_to_list, is_some}
use Rattle.std.proofs.lemmas.List.{append-nil, length-map}
use Rattle.std.proofs.lemmas.Result.{IfOk-weaker}
use Rattle.jp_pred.specs.declared.ty.Ty.{Ty}
use Rattle.jp_pred.specs.Names.{Word}
use Rattle.iface_codec.specs.declared.iface.Iface.{Iface}
use Rattle.jp_ast.specs.declared.expr.Expr.{Expr}
use Rattle.jp_ast.specs.declared.stmt.Stmt.{Stmt}
use Rattle.jp_ast.specs.declared.decl.Decl.{Decl}
use Rattle.jp_ast.specs.declared.decl.Member.{Member}
use Rattle.jp_ast.specs.declared.decl.MemberPart.{MemberPart}
use Rattle.jp_ast.specs.declared.decl.MemberPart.TheVariants as part
use Rattle.type_rules.specs.Heads.{constructor_part, as_constructor, superclass_of, head_of, is_class}
use Rattle.type_rules.specs.Lookups.{constructor_of}
use Rattle.type_rules.specs.RulesOfDeclarations.{super_head}
use Rattle.type_rules.specs.Statements.{waiting}
use Rattle.type_rules.specs.Units.{opened, super_part, super_count, super_params}
use Rattle.type_decl.specs.Parts.{seat_of}

-- the parameters of the superclass's first constructor with so many
abbrev pub params_with : List Iface → Decl → ℕ → List Ty
params_with heads d n = flat_map (λ h. option_map_or (λ ts. ts) (constructor_of h n) []) (super_head heads d)

same_count : (o : Option (List Expr)) → option_map_or length o 0 ≡ option_map_or length (option_map (map waiting) o) 0
same_count None = refl
same_count (Some xs) = sym (length-map xs waiting)

pub of_constructor : {E : Type 0} (heads : List Iface) (d : Decl) (m : Member) (args : Option (List Expr)) (block : List Stmt) (n : ℕ) (r : Result (List Ty) E) → m.part ≡ part.Constructor args block →
    n ≡ option_map_or length (super_part m.part) 0 → IfOk r (λ tys. tys ≡ params_with heads d n) → IfOk r (λ tys. tys ≡ super_params (seat_of heads d) (opened m))
of_constructor heads d m args block n r e f h =
    let is_one : is_some (as_constructor m) ≡ true = ap (λ (x : MemberPart). is_some (constructor_part m x)) e in
    IfOk-weaker r _ _ (λ tys g. g ∙ (ap (params_with heads d) (f ∙ same_count (super_part m.part)) ∙ ap (λ (b : Bool). if b then params_with heads d (super_count (opened m)) else []) (sym is_one))) h

of_other : (m : Member) (x : MemberPart) (tys : List Ty) → ((args : Option (List Expr)) (block : List Stmt) → x ≡ part.Constructor args block → ⊥) → [] ≡ (if is_some (constructor_part m x) then tys else [])
of_other m (part.Field t static) tys h = refl
of_other m (part.Static result block) tys h = refl
of_other m (part.Abstract result) tys h = refl
of_other m (part.Body result guard block) tys h = refl
of_other m (part.Constructor args block) tys h = absurd (h args block refl)

pub of_another : (heads : List Iface) (d : Decl) (m : Member) → ((args : Option (List Expr)) (block : List Stmt) → m.part ≡ part.Constructor args block → ⊥) → [] ≡ super_params (seat_of heads d) (opened m)
of_another heads d m h = of_other m m.part (params_with heads d (super_count (opened m))) h

pub params_found : (heads : List Iface) (d : Decl) (n : ℕ) (class : Iface) (found : Option (List Ty)) → class ∷ [] ≡ super_head heads d → found ≡ constructor_of class n → option_map_or (λ ts. ts) found [] ≡ params_with heads d n
params_found heads d n class found e f =
    ap (λ (o : Option (List Ty)). option_map_or (λ ts. ts) o []) f
    ∙ (sym (append-nil (option_map_or (λ ts. ts) (constructor_of class n) [])) ∙ ap (flat_map (λ h. option_map_or (λ ts. ts) (constructor_of h n) [])) e)

pub none_found : (heads : List Iface) (d : Decl) (n : ℕ) → [] ≡ super_head heads d → [] ≡ params_with heads d n
none_found heads d n e = ap (flat_map (λ h. option_map_or (λ ts. ts) (constructor_of h n) [])) e

-- the first class of that name, where it is a class
abbrev pub classes_named : List Iface → Word → List Iface
classes_named heads name = filter_map (λ h. if is_class h then Some h else None) (option_to_list (head_of heads name))

pub super_named : (heads : List Iface) (d : Decl) (name : Word) (found : List Iface) → Some name ≡ superclass_of d → found ≡ classes_named heads name → found ≡ super_head heads d
super_named heads d name found e f = f ∙ ap (λ (o : Option Word). option_map_or (classes_named heads) o []) e

pub super_unnamed : (heads : List Iface) (d : Decl) → None ≡ superclass_of d → [] ≡ super_head heads d
super_unnamed heads d e = ap (λ (o : Option Word). option_map_or (classes_named heads) o []) e
