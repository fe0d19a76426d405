-- Lists of declarations, and units.
use Rattle.std.proofs.Common.{◌≡◌, ◌≤◌, max, not, map, List, [], ◌∷◌, ◌++◌, Ok, Err, IsTrue, refl, sym, ap, subst, inl, inr, append_assoc, arith}
use Rattle.jp_ast.specs.declared.token.Token.{Token}
use Rattle.jp_ast.specs.declared.token.Lexeme.TheVariants as lexeme
use Rattle.jp_ast.specs.declared.decl.Decl.{Decl}
use Rattle.jp_ast.specs.declared.decl.SourceUnit.{SourceUnit}
use Rattle.jp_grammar.specs.declared.kind.Kind.{Kind}
use Rattle.jp_grammar.specs.declared.kind.Kind.TheVariants as k
use Rattle.jp_grammar.specs.declared.fault.ParseFault.{ParseFault}
use Rattle.jp_grammar.specs.declared.fault.ParseFault.TheVariants.{Unexpected, Outside, TooDeep, OutOfMemory}
use Rattle.jp_grammar.specs.Kinds.{Is, Tokens, nowhere, kind_of_token}
use Rattle.jp_grammar.specs.Declarations.{Declaration, MoreDeclarations, unit_end, unit_more, Whole, whole}
use Rattle.jp_grammar.specs.Reading.{Reads, Ends, IsText, Follows, Found, Fault, Fails, is_deep}
use Rattle.jp_grammar.specs.Depth.{greatest}
use Rattle.jp_grammar.specs.Faults.{deepest_of_decl, Parses, IsFault, IsFirstFault, IsNowhere, IsDeeper}
use Rattle.jp_grammar.proofs.Sequence.{Then}
use Rattle.jp_grammar.proofs.Outcome.{Joint, found_nothing}
use Rattle.jp_parse_stmt.specs.Behind.{anything}
use Rattle.jp_parse_decl.specs.Answers.{Yields, Gathers}
use Rattle.jp_parse_decl.specs.Behind.{end_kind, ends_end}
use Rattle.jp_parse_decl.specs.Bounds.{SmallDecl, SmallDecls}
use Rattle.jp_parse_decl.specs.Parts.{MoreGathered, gathered_end, gathered_more, Gathered, gathered}
use Rattle.jp_parse_decl.proofs.Links.{Answer, Alike, Alt, then_gives, then_fails, alike_gives, alt_gives, moved}
use Rattle.jp_parse_decl.proofs.Tokens.{some_end}
use Rattle.jp_parse_decl.proofs.HeadFacts.{decl_no_end, decl_some}

-- decl {decl}, behind some declarations
abbrev pub AtLeast : List Decl → Reads (List Decl)
AtLeast ds = Then Declaration (λ d. MoreGathered (ds ++ d ∷ []))

-- the end of the text
abbrev pub an_end : Token
an_end = record { place = nowhere; lexeme = lexeme.End }

pub decls_push : (ds : List Decl) (d : Decl) → greatest (map deepest_of_decl (ds ++ d ∷ [])) ≡ max (greatest (map deepest_of_decl ds)) (deepest_of_decl d)
decls_push [] d = omega arith
decls_push (e ∷ ds) d = let h = decls_push ds d in omega (arith, h)

decls_grow : {ds es : List Decl} {xs zs : Tokens} → MoreGathered ds xs es zs → greatest (map deepest_of_decl ds) ≤ greatest (map deepest_of_decl es)
decls_grow gathered_end = omega arith
decls_grow {ds = ds} (gathered_more {d = d} o r) = let p = decls_push ds d in let h = decls_grow r in omega (arith, p, h)

more_some : (ds es : List Decl) (xs zs : Tokens) → MoreGathered ds xs es zs → Ends ends_end zs → Ends anything xs
more_some ds es xs zs gathered_end h = some_end ends_end xs h
more_some ds es xs zs (gathered_more o r) h = decl_some _ _ _ o

decls_joint : (ds : List Decl) → SmallDecls ds → Joint Declaration (λ d. MoreGathered (ds ++ d ∷ [])) anything ends_end SmallDecl SmallDecls
decls_joint ds small = record {
  starts = λ d ys zs es r h. more_some (ds ++ d ∷ []) es ys zs r h;
  down = λ d ys zs es r q. let g = decls_grow r in let p = decls_push ds d in omega (arith, g, p, q);
  close = [];
  follows = λ zs h. some_end ends_end zs h;
  closed = λ d zs h. (ds ++ d ∷ [], gathered_end, λ q. let p = decls_push ds d in omega (arith, p, q, small));
}

pub decls_small : (ds : List Decl) (d : Decl) → SmallDecls ds → SmallDecl d → SmallDecls (ds ++ d ∷ [])
decls_small ds d a b = let p = decls_push ds d in omega (arith, p, a, b)

-- the next declaration fails
pub decls_fails : (ds : List Decl) (tokens : Tokens) (e : ParseFault) → SmallDecls ds → Fails Declaration (λ _. anything) anything SmallDecl tokens e → Yields (AtLeast ds) ends_end SmallDecls tokens (Err e)
decls_fails ds tokens e small f = then_fails (decls_joint ds small) tokens e f

-- what is behind the next declaration
pub decls_gives : (ds : List Decl) (tokens ys : Tokens) (d : Decl) (r : Answer (List Decl)) → SmallDecls ds → Found Declaration (λ _. anything) tokens d ys → Yields (MoreGathered (ds ++ d ∷ [])) ends_end SmallDecls ys r → Yields (AtLeast ds) ends_end SmallDecls tokens r
decls_gives ds tokens ys d r small g f = then_gives (decls_joint ds small) tokens ys d r g f

end_is : (kind : Kind) → IsTrue (end_kind kind) → kind ≡ k.End
end_is k.End h = refl
end_is _ h = cc

more_only : (ds : List Decl) (s : Token) (xs : Tokens) → Is k.End s → (ys zs : Tokens) (es : List Decl) → Follows ends_end (s ∷ xs) ys → MoreGathered ds ys es zs → (es ≡ ds) × (zs ≡ ys)
more_only ds s xs h ys zs es f gathered_end = (refl, refl)
more_only ds s xs h [] zs es (inl e) (gathered_more o r) = absurd e
more_only ds s xs h [] zs es (inr e) (gathered_more o r) = absurd e
more_only ds s xs h (y ∷ ys) zs es (inl e) (gathered_more o r) = absurd (decl_no_end y ys _ _ (end_is (kind_of_token y) e) o)
more_only ds s xs h (y ∷ ys) zs es (inr same) (gathered_more o r) = absurd (decl_no_end y ys _ _ (subst (λ (x : Token). Is k.End x) (sym same) h) o)

module _ (ds : List Decl) (s : Token) (xs tokens : Tokens) (split : tokens ≡ s ∷ xs) where
  pub more_end : Is k.End s → Found (MoreGathered ds) (λ _. ends_end) tokens ds tokens
  more_end h = subst (λ (x : Tokens). Found (MoreGathered ds) (λ _. ends_end) x ds x) (sym split)
      (found_nothing (MoreGathered ds) ends_end (s ∷ xs) ds (λ ys. gathered_end) (λ ys zs es f r e. more_only ds s xs h ys zs es f r))

  more_from : (ys zs : Tokens) (es : List Decl) → (Is k.End s → ⊥) → MoreGathered ds (s ∷ ys) es zs → Ends ends_end zs → AtLeast ds (s ∷ ys) es zs
  more_from ys zs es other gathered_end e = absurd (other (end_is (kind_of_token s) e))
  more_from ys zs es other (gathered_more o r) e = (_, _, o, r)

  more_alt : (Is k.End s → ⊥) → Alt s (AtLeast ds) (MoreGathered ds) ends_end
  more_alt other = record {
    into = λ ys zs es q. gathered_more q.2 q.3;
    from = λ ys zs es q e. more_from ys zs es other q e;
    bad = an_end ∷ [];
    bad_ends = refl;
    solid = λ es q. decl_no_end an_end [] _ _ refl q.2;
  }

  -- more of them
  pub more_gives : (r : Answer (List Decl)) → (Is k.End s → ⊥) → Yields (AtLeast ds) ends_end SmallDecls tokens r → Yields (MoreGathered ds) ends_end SmallDecls tokens r
  more_gives r other g = moved (MoreGathered ds) ends_end SmallDecls tokens (s ∷ xs) r split
      (alt_gives SmallDecls (more_alt other) xs r (subst (λ (x : Tokens). Yields (AtLeast ds) ends_end SmallDecls x r) split g))

all_into : (xs zs : Tokens) (ds : List Decl) → AtLeast [] xs ds zs → Gathered xs ds zs
all_into xs zs ds r = gathered r.2 r.3

all_from : (xs zs : Tokens) (ds : List Decl) → Gathered xs ds zs → AtLeast [] xs ds zs
all_from xs zs ds (gathered o r) = (_, _, o, r)

all_alike : Alike (AtLeast []) Gathered ends_end
all_alike = record { into = λ xs zs p r. all_into xs zs p r; from = λ xs zs p r e. all_from xs zs p r }

pub all_gives : (xs : Tokens) (r : Answer (List Decl)) → Yields (AtLeast []) ends_end SmallDecls xs r → Yields Gathered ends_end SmallDecls xs r
all_gives xs r g = alike_gives SmallDecls all_alike xs r g

-- ---- units

pub end_alone : (zs : Tokens) → IsText zs → Ends ends_end zs → (last : Token) × Is k.End last × (zs ≡ last ∷ [])
end_alone [] t h = absurd h
end_alone (s ∷ []) t h = (s, t, refl)
end_alone (s ∷ x ∷ xs) t h = absurd (t.0 (end_is (kind_of_token s) h))

more_whole : {ds es : List Decl} {xs : Tokens} {last : Token} → Is k.End last → MoreGathered ds xs es (last ∷ []) → MoreDeclarations ds xs es
more_whole h gathered_end = unit_end h
more_whole h (gathered_more o r) = unit_more o (more_whole h r)

gathered_whole : {ds : List Decl} {xs : Tokens} {last : Token} → Is k.End last → Gathered xs ds (last ∷ []) → Whole xs (record { decls = ds })
gathered_whole h (gathered o r) = whole o (more_whole h r)

whole_more : {ds es : List Decl} {xs : Tokens} → MoreDeclarations ds xs es → (last : Token) × Is k.End last × MoreGathered ds xs es (last ∷ [])
whole_more (unit_end {last = last} h) = (last, h, gathered_end)
whole_more (unit_more o r) = let w = whole_more r in (w.0, w.1, gathered_more o w.2)

whole_gathered : {u : SourceUnit} {xs : Tokens} → Whole xs u → (last : Token) × Is k.End last × Gathered xs u.decls (last ∷ [])
whole_gathered (whole o r) = let w = whole_more r in (w.0, w.1, gathered o w.2)

ends_last : (last : Token) → Is k.End last → Ends ends_end (last ∷ [])
ends_last last h = ap end_kind h

gathered_at : (xs zs : Tokens) (ds : List Decl) → IsText zs → Ends ends_end zs → Gathered xs ds zs → Whole xs (record { decls = ds })
gathered_at xs zs ds t h r = let l = end_alone zs t h in gathered_whole l.1 (subst (λ (x : Tokens). Gathered xs ds x) l.2 r)

same_unit : (v : SourceUnit) (ds : List Decl) → v.decls ≡ ds → v ≡ record { decls = ds }
same_unit v ds h = ap (λ (x : List Decl). record { decls = x }) h

-- the unit
pub unit_parsed : (xs : Tokens) (ds : List Decl) → Gathers xs (Ok ds) → Parses xs (Ok (record { decls = ds }))
unit_parsed xs ds g =
    let zs : Tokens = g.0 in
    let f : Found Gathered (λ _. ends_end) xs ds zs = g.1 in
    let r : Gathered xs ds zs = subst (λ (x : Tokens). Gathered x ds zs) (sym f.split) (f.reads zs (inl g.2)) in (
      record { whole = gathered_at xs zs ds g.3 g.2 r; small = g.4 },
      λ v p.
          let w = whole_gathered p.whole in
          let q : Gathered (f.front ++ zs) v.decls (w.0 ∷ []) = subst (λ (x : Tokens). Gathered x v.decls (w.0 ∷ [])) f.split w.2 in
          same_unit v ds (f.only zs (w.0 ∷ []) v.decls (inl g.2) q (ends_last w.0 w.1)).0,
    )

-- the fault
module _ (xs : Tokens) (e : ParseFault) (f : Fault Gathered (λ _. ends_end) ends_end SmallDecls e xs) where
  last_end : Ends ends_end (an_end ∷ [])
  last_end = refl

  first_fault : IsFirstFault xs f.front f.next
  first_fault = record {
    more = f.more;
    split = f.split;
    viable =
        let v = f.viable (an_end ∷ []) last_end in
        (v.0 ++ an_end ∷ [], record { decls = v.1 }, record { whole = gathered_whole {last = an_end} refl v.2; small = v.4 });
    never = λ more u p.
        let w = whole_gathered p.whole in
        f.never more (w.0 ∷ []) u.decls w.2 (ends_last w.0 w.1) p.small;
  }

  nowhere_else : IsTrue (not (is_deep e)) → IsNowhere f.front f.next
  nowhere_else flat more u p =
      let w = whole_gathered p in
      f.never_deeper flat more (w.0 ∷ []) u.decls w.2 (ends_last w.0 w.1) tt

  is_deeper : IsTrue (is_deep e) → IsDeeper f.front f.next
  is_deeper deep =
      let v = f.deeper deep (an_end ∷ []) last_end in
      let r : Gathered (f.front ++ (f.next ∷ (v.0 ++ an_end ∷ []))) v.1 (an_end ∷ []) = subst (λ (x : Tokens). Gathered x v.1 (an_end ∷ [])) (append_assoc f.front (f.next ∷ []) (v.0 ++ an_end ∷ [])) v.2 in
      (v.0 ++ an_end ∷ [], record { decls = v.1 }, gathered_whole {last = an_end} refl r)

told : (xs : Tokens) (e : ParseFault) → Fault Gathered (λ _. ends_end) ends_end SmallDecls e xs → IsFault xs e
told xs (Unexpected place) f = (f.front, f.next, first_fault xs (Unexpected place) f, (f.tells.0, nowhere_else xs (Unexpected place) f refl, f.tells.1))
told xs (Outside place word) f = (f.front, f.next, first_fault xs (Outside place word) f, (f.tells.0, nowhere_else xs (Outside place word) f refl, f.tells.1, f.tells.2))
told xs (TooDeep place) f = (f.front, f.next, first_fault xs (TooDeep place) f, (f.tells, is_deeper xs (TooDeep place) f refl))
told xs OutOfMemory f = absurd f.tells

no_memory : (xs : Tokens) (e : ParseFault) → e ≡ OutOfMemory → IsFault xs e
no_memory xs e m = subst (λ (x : ParseFault). IsFault xs x) (sym m) tt

pub unit_fault : (xs : Tokens) (e : ParseFault) → Gathers xs (Err e) → Parses xs (Err e)
unit_fault xs e (inl m) = no_memory xs e m
unit_fault xs e (inr f) = told xs e f
