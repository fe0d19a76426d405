-- A tree is the program of one list of literals.
use Rattle.std.proofs.Common.{◌≡◌, ℕ, List, [], ◌∷◌, sym, ap, ◌∙◌, subst, refl}
use Rattle.std.specs.Prelude.{codes}
use Rattle.jp_ast.specs.declared.expr.Expr.{Expr}
use Rattle.jp_ast.specs.declared.stmt.Stmt.{Stmt}
use Rattle.jp_ast.specs.declared.decl.SourceUnit.{SourceUnit}
use Rattle.jp_ast.specs.declared.decl.Decl.{Decl}
use Rattle.jp_ast.specs.declared.decl.Member.{Member}
use Rattle.jp_ast.specs.declared.decl.MemberPart.TheVariants as part
use Rattle.jp_pred.specs.declared.ty.Ty.TheVariants as ty
use Rattle.print_form.specs.declared.literal.Literal.{Literal}
use Rattle.print_form.specs.Form.{IsNumber, IsWritten, plain, minus, IsCall, IsPrint, PrintEach, IsMain, IsClass, IsProgram}
use Rattle.print_form.proofs.Variants.{number_is, unary_is, no_unary, call_is, run_is}

same_literal : (l m : Literal) → l.negative ≡ m.negative → l.hex ≡ m.hex → l.size ≡ m.size → l ≡ m
same_literal l m n h s =
    ap (λ x. record { negative = x; hex = l.hex; size = l.size }) n ∙ ap (λ x. record { negative = m.negative; hex = x; size = l.size }) h
    ∙ ap (λ x. record { negative = m.negative; hex = m.hex; size = x }) s

one_number : (l m : Literal) (e : Expr) → l.negative ≡ m.negative → IsNumber l e → IsNumber m e → l ≡ m
one_number l m e n a b = let same = number_is e.kind l.size m.size l.hex m.hex a b in same_literal l m n same.1 same.0

pub one_written : (l m : Literal) (e : Expr) → IsWritten l e → IsWritten m e → l ≡ m
one_written l m e (plain p a) (plain q b) = one_number l m e (p ∙ sym q) a b
one_written l m e (plain p a) (minus q x k b) = absurd (no_unary e.kind _ _ _ x a k)
one_written l m e (minus p x k a) (plain q b) = absurd (no_unary e.kind _ _ _ x b k)
one_written l m e (minus p x j a) (minus q y k b) =
    let same = unary_is e.kind _ _ x y j k in one_number l m x (p ∙ sym q) a (subst (IsNumber m) (sym same.1) b)

one_call : (l m : Literal) (e : Expr) → IsCall l e → IsCall m e → l ≡ m
one_call l m e a b =
    let same = call_is e.kind a.object b.object (codes "print") (codes "print") (a.argument ∷ []) (b.argument ∷ []) a.calls b.calls in
    let args : a.argument ≡ b.argument = let s : a.argument ∷ [] ≡ b.argument ∷ [] = same.2 in cc in
    one_written l m a.argument a.argument_is.written (subst (IsWritten m) (sym args) b.argument_is.written)

one_print : (l m : Literal) (s : Stmt) → IsPrint l s → IsPrint m s → l ≡ m
one_print l m s a b = let same = run_is s.kind a.call b.call a.runs b.runs in one_call l m a.call a.prints (subst (IsCall m) (sym same) b.prints)

one_each : (ls ms : List Literal) (block : List Stmt) → PrintEach ls block → PrintEach ms block → ls ≡ ms
one_each [] [] [] a b = refl
one_each [] (m ∷ ms) [] a b = absurd b
one_each (l ∷ ls) ms [] a b = absurd a
one_each [] ms (s ∷ block) a b = absurd a
one_each (l ∷ ls) [] (s ∷ block) a b = absurd b
one_each (l ∷ ls) (m ∷ ms) (s ∷ block) a b = let first = one_print l m s a.0 b.0 in let others = one_each ls ms block a.1 b.1 in cc

one_main : (ls ms : List Literal) (m : Member) → IsMain ls m → IsMain ms m → ls ≡ ms
one_main ls ms m a b =
    let same : part.Static ty.Void a.block ≡ part.Static ty.Void b.block = sym a.method.made ∙ b.method.made in
    let block : a.block ≡ b.block = cc in
    one_each ls ms a.block a.prints.prints (subst (PrintEach ms) (sym block) b.prints.prints)

one_class : (main : List ℕ) (ls ms : List Literal) (d : Decl) → IsClass main ls d → IsClass main ms d → ls ≡ ms
one_class main ls ms d a b =
    let same : a.method ≡ b.method = let e = sym a.members ∙ b.members in cc in one_main ls ms a.method a.prints (subst (IsMain ms) (sym same) b.prints)

pub one_unit : (main : List ℕ) (unit : SourceUnit) (ls ms : List Literal) → IsProgram main ls unit → IsProgram main ms unit → ls ≡ ms
one_unit main unit ls ms a b =
    let same : a.class ≡ b.class = let e = sym a.decls ∙ b.decls in cc in one_class main ls ms a.class a.prints (subst (IsClass main ms) (sym same) b.prints)
