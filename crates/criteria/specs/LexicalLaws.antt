-- Lexical keeps the laws that its parts keep.
use Rattle.std.specs.Prelude.{◌≡◌, ◌⊎◌}
use Rattle.std.proofs.Common.{sym, ap, ap₂, ◌∙◌, subst, inl, inr, ⊎_elim}
use Rattle.criteria.specs.declared.lexical.LexicalValue.{LexicalValue}
use Rattle.criteria.specs.Lexical.{lexical_good, lexical_meaning}
use Rattle.criteria.specs.Meaning.{Meaning, Strict, Order, Monotone, Best, Steadiness}
use Rattle.criteria.specs.Orders.{strict_apart, strict_trans}

module _ {V W : Type 0} (a : Meaning V) (b : Meaning W) where
  -- strictly ahead by the first part, or on a tie in the relation S by the second
  abbrev Lex : (W → W → Type 0) → LexicalValue V W → LexicalValue V W → Type 0
  Lex S x y = Strict a.good x.first y.first ⊎ ((x.first ≡ y.first) × S x.second y.second)

  -- strictly better by Lexical is strictly better by the first part, or on a tie by the second
  lex_strict : (x y : LexicalValue V W) → Lex (Strict b.good) x y → Strict (lexical_good a b) x y
  lex_strict x y =
      ⊎_elim
      (λ s. record {
        better = inl s;
        apart = ⊎_elim (λ t. s.apart t.better) (λ (e, _). strict_apart s (sym e));
      })
      (λ (e, s). record {
        better = inr (e, s.better);
        apart = ⊎_elim (λ t. strict_apart t (sym e)) (λ (_, back). s.apart back);
      })

  strict_lex : (x y : LexicalValue V W) → Strict (lexical_good a b) x y → Lex (Strict b.good) x y
  strict_lex x y s =
      ⊎_elim inl (λ (e, better). inr (e, record { better = better; apart = λ back. s.apart (inr (sym e, back)) })) s.better

  -- joining z keeps the relation where it keeps it in either part
  lex_before : (S : W → W → Type 0) → Steadiness a → ((v w u : W) → S v w → S (b.join u v) (b.join u w)) → (x y z : LexicalValue V W) → Lex S x y → Lex S ((lexical_meaning a b).join z x) ((lexical_meaning a b).join z y)
  lex_before S s keep x y z =
      ⊎_elim
      (λ t. inl (s.before x.first y.first z.first t))
      (λ (e, t). inr (ap (a.join z.first) e, keep x.second y.second z.second t))

  lex_after : (S : W → W → Type 0) → Steadiness a → ((v w u : W) → S v w → S (b.join v u) (b.join w u)) → (x y z : LexicalValue V W) → Lex S x y → Lex S ((lexical_meaning a b).join x z) ((lexical_meaning a b).join y z)
  lex_after S s keep x y z =
      ⊎_elim
      (λ t. inl (s.after x.first y.first z.first t))
      (λ (e, t). inr (ap (λ v. a.join v z.first) e, keep x.second y.second z.second t))

  module _ (oa : Order a) (ob : Order b) where
    trans : (x y z : LexicalValue V W) → lexical_good a b x y → lexical_good a b y z → lexical_good a b x z
    trans x y z (inl s) (inl t) = inl (strict_trans oa s t)
    trans x y z (inl s) (inr (e, _)) = inl (subst (λ v. Strict a.good x.first v) e s)
    trans x y z (inr (e, _)) (inl t) = inl (subst (λ v. Strict a.good v z.first) (sym e) t)
    trans x y z (inr (e, g)) (inr (f, h)) = inr (e ∙ f, ob.trans x.second y.second z.second g h)

    total : (x y : LexicalValue V W) → lexical_good a b x y ⊎ Strict (lexical_good a b) y x
    total x y =
        let tie : x.first ≡ y.first → lexical_good a b x y ⊎ Strict (lexical_good a b) y x = λ e.
        ⊎_elim (λ g. inl (inr (e, g))) (λ s. inr (lex_strict y x (inr (sym e, s)))) (ob.total x.second y.second) in
        ⊎_elim
        (λ g. ⊎_elim (λ h. tie (oa.same x.first y.first g h)) (λ s. inl (inl s)) (oa.total y.first x.first))
        (λ s. inr (lex_strict y x (inl s)))
        (oa.total x.first y.first)

    same : (x y : LexicalValue V W) → lexical_good a b x y → lexical_good a b y x → x ≡ y
    same x y (inl s) (inl t) = absurd (s.apart t.better)
    same x y (inl s) (inr (e, _)) = absurd (strict_apart s (sym e))
    same x y (inr (e, _)) (inl t) = absurd (strict_apart t (sym e))
    same x y (inr (e, g)) (inr (_, h)) =
        ap₂ (λ v w. record { first = v; second = w }) e (ob.same x.second y.second g h)

  pub lexical_order : Order a → Order b → Order (lexical_meaning a b)
  lexical_order oa ob = record { trans = trans oa ob; total = total oa ob; same = same oa ob }

  pub lexical_best : Order a → Best a → Best b → Best (lexical_meaning a b)
  lexical_best oa p q = record {
    unit = λ x.
        ⊎_elim
        (λ g. inr (oa.same a.unit x.first (p.unit x.first) g, q.unit x.second))
        inl
        (oa.total x.first a.unit);
  }

  pub lexical_monotone : Steadiness a → Monotone b → Monotone (lexical_meaning a b)
  lexical_monotone s n = record {
    before = lex_before b.good s n.before;
    after = lex_after b.good s n.after;
  }

  pub lexical_steadiness : Steadiness a → Steadiness b → Steadiness (lexical_meaning a b)
  lexical_steadiness s n = record {
    before = λ x y z ahead. lex_strict _ _ (lex_before (Strict b.good) s n.before x y z (strict_lex x y ahead));
    after = λ x y z ahead. lex_strict _ _ (lex_after (Strict b.good) s n.after x y z (strict_lex x y ahead));
  }
