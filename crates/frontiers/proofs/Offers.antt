-- What is held after an extension was offered.
use Rattle.std.proofs.Common.{◌≡◌, ℕ, ◌+◌, ◌<◌, Bool, true, false, ◌⊎◌, List, length, get_or, set, Some, None, MatchBool, Option, sym, refl, ap, ◌∙◌, subst, ⊎_elim, arith, length-set, get_or-set_other, get_or-set_same}
use Rattle.std.proofs.lemmas.List.{get_or_default, get_or_read}
use Rattle.std.proofs.lemmas.Option.{same_Some}
use Rattle.trips.specs.Plans.{Numbered}
use Rattle.criteria.specs.Covers.{Covers}
use Rattle.criteria.specs.Meaning.{Meaning, Laws}
use Rattle.roads.specs.declared.road.Road.{Road}
use Rattle.rows.specs.declared.row.Row.{Row}
use Rattle.rows.specs.Places.{RowAt, pair_of}
use Rattle.growth.specs.Growing.{Ahead, Covered, Extends, Extension, Fresh}
use Rattle.growth.specs.Grown.{Grown}
use Rattle.growth.proofs.Orders.{covers_same, covers_ahead, ahead_trans}
use Rattle.growth.proofs.Tables.{at_one}
use Rattle.frontiers.specs.Frontiers.{Latest, Shown, Holds, Outdone, Foremost, Weighed, shadowed, outdone, held, Held, Built, Passing, Standing, Follows, Tried}
use Rattle.frontiers.proofs.Links.{shown_covered}

-- the row that was read stands where it was read
pub row_read : {V W : Type 0} (rs : List (Row V W)) (i : ℕ) (x : Row V W) → i < length rs → x ≡ get_or rs i x → RowAt rs i x
row_read rs i x h e = (h, λ d. sym (get_or_read rs i x h e d))

-- and so does the road
pub road_read : (roads : List Road) (j : ℕ) (d : Road) → j < length roads → Numbered roads j (get_or roads j d)
road_read roads j d h = (h, λ d'. get_or_default roads j d' d h)

-- a place holds the row that was read from it
pub holds_read : {V W : Type 0} (best : List (Option (Row V W))) (place : ℕ) (o : Option (Row V W)) (x : Row V W) → place < length best → get_or best place o ≡ Some x → Holds best place x
holds_read best place o x low is = get_or_default best place None o low ∙ is

module _ {V W : Type 0} (a : Meaning V) (b : Meaning W) where
  -- what the comparison with the held row says
  pub outdone_when : (q : Row V W) (best : List (Option (Row V W))) (x : Row V W) (r : Bool) → Holds best q.end x → MatchBool r (Ahead a b (pair_of x) (pair_of q)) (Ahead a b (pair_of q) (pair_of x)) → MatchBool r (Outdone a b q best) (Foremost a b q best)
  outdone_when q best x true holds h = record { row = x; held = holds; ahead = h }
  outdone_when q best x false holds h = record { ahead = λ c at. subst (λ z. Ahead a b (pair_of q) (pair_of z)) (same_Some _ _ (sym holds ∙ at)) h }

  module _ (la : Laws a) (lb : Laws b) (roads : List Road) (base : ℕ) (rs : List (Row V W)) where
    -- two extensions of one row by one road have the same values and the same end
    same_extension : (i j k l : ℕ) (p p' : Row V W) (r r' : Road) (q z : Row V W) → Extends a b roads base rs i p j r q → Extends a b roads base rs k p' l r' z → k ≡ i → l ≡ j → (pair_of z ≡ pair_of q) × (z.end ≡ q.end)
    same_extension i j k l p p' r r' q z e f ik jl =
        let same_p : p' ≡ p = at_one rs i p' p (subst (λ n. RowAt rs n p') ik f.row) e.row in
        let same_r : r' ≡ r = sym (f.road.1 r) ∙ ap (λ n. get_or roads n r) jl ∙ e.road.1 r in
        let x : z.first ≡ q.first = f.first ∙ ap (λ w. a.join w.first (a.value r'.marks)) same_p ∙ ap (λ w. a.join p.first (a.value w.marks)) same_r ∙ sym e.first in
        let y : z.second ≡ q.second = f.second ∙ ap (λ w. b.join w.second (b.value r'.marks)) same_p ∙ ap (λ w. b.join p.second (b.value w.marks)) same_r ∙ sym e.second in
        (λ n. (x n, y n), f.ends ∙ ap (λ w. w.end) same_r ∙ sym e.ends)

    -- what covers one covers the other
    covered_same : (q z : Row V W) → pair_of z ≡ pair_of q → z.end ≡ q.end → Covered a b rs q → Covered a b rs z
    covered_same q z pairs ends c = record { index = c.index; row = c.row; stands = c.stands; place = c.place ∙ sym ends; covers = subst (λ w. Covers a b (pair_of c.row) w) (sym pairs) c.covers }

    -- nothing is offered, and nothing more is seen
    pub held_still : (best : List (Option (Row V W))) (seen seen' : ℕ → ℕ → Type 0) (place : ℕ) → ((z : Row V W) (f : Fresh a b roads base rs z) → seen' f.index f.number → z.end ≡ place → seen f.index f.number) → Held a b roads base rs best seen place → Held a b roads base rs best seen' place
    held_still best seen seen' place less h = record { right = h.right; first = λ z f s e. h.first z f (less z f s e) e }

    -- another place keeps what it holds
    pub held_apart : (best best' : List (Option (Row V W))) (seen : ℕ → ℕ → Type 0) (place : ℕ) → get_or best' place None ≡ get_or best place None → Held a b roads base rs best seen place → Held a b roads base rs best' seen place
    held_apart best best' seen place same h = record {
      right = λ c at. h.right c (sym same ∙ at);
      first = λ z f s e. let (c, at, on) = h.first z f s e in (c, same ∙ at, on);
    }

    module _ (origin : ℕ) (front : List (Row V W)) (long : length front ≡ base) (g : Grown a b roads origin front rs) (i j : ℕ) (p : Row V W) (r : Road) (q : Row V W) (e : Extends a b roads base rs i p j r q) (best best' : List (Option (Row V W))) (o : Option ℕ) (latest : Latest rs (length rs) q.end o) (wide : q.end < length best) (w : Weighed a b rs q o best best') (passing : Passing a b q) where
      -- q is an extension of one of the rows
      extension : Extension a b roads (length front) rs q
      extension = subst (λ n. Extension a b roads n rs q) (sym long) (record { index = i; row = p; number = j; road = r; extends = e })

      -- the last row at its place tells whether q is covered
      covers_if : (t : Bool) → Shown b rs q o t → (t ≡ true → Covered a b rs q) × (t ≡ false → Covered a b rs q → ⊥)
      covers_if t s = shown_covered a b la lb roads origin front rs g q extension o t latest s

      -- an uncovered extension of that row by that road has the values of q
      alike : (z : Row V W) (f : Fresh a b roads base rs z) → f.index ≡ i → f.number ≡ j → (pair_of z ≡ pair_of q) × (z.end ≡ q.end)
      alike z f ik jl = same_extension i j f.index f.number p f.row r f.road q z e f.extends ik jl

      module _ (seen seen' : ℕ → ℕ → Type 0) (more : (z : Row V W) (f : Fresh a b roads base rs z) → seen' f.index f.number → z.end ≡ q.end → seen f.index f.number ⊎ ((f.index ≡ i) × (f.number ≡ j))) (h : Held a b roads base rs best seen q.end) where
        -- q is covered
        when_shadowed : Shown b rs q o true → Held a b roads base rs best seen' q.end
        when_shadowed s = record {
          right = h.right;
          first = λ z f sn ez. ⊎_elim
              (λ old. h.first z f old ez)
              (λ (ik, jl). let (pairs, ends) = alike z f ik jl in absurd (f.uncovered (covered_same q z pairs ends ((covers_if true s).0 refl))))
              (more z f sn ez);
        }

        -- what is held is as good
        when_outdone : Outdone a b q best → Held a b roads base rs best seen' q.end
        when_outdone d = record {
          right = h.right;
          first = λ z f sn ez. ⊎_elim
              (λ old. h.first z f old ez)
              (λ (ik, jl). let (pairs, _) = alike z f ik jl in (d.row, d.held, subst (λ x. Ahead a b (pair_of d.row) x) (sym pairs) d.ahead))
              (more z f sn ez);
        }

        -- q is held
        when_held : Shown b rs q o false → Foremost a b q best → Held a b roads base rs (set best q.end (Some q)) seen' q.end
        when_held s d =
            let now : Holds (set best q.end (Some q)) q.end q = get_or-set_same best q.end (Some q) None wide in
            record {
              right = λ c at.
                  let is : q ≡ c = same_Some _ _ (sym now ∙ at) in
                  (subst (λ x. Fresh a b roads base rs x) is (record { index = i; row = p; number = j; road = r; extends = e; uncovered = (covers_if false s).1 refl }), ap (λ x. x.end) (sym is), subst (Passing a b) is passing);
              first = λ z f sn ez. (
                q,
                now,
                ⊎_elim
                    (λ old. let (c, at, on) = h.first z f old ez in ahead_trans la lb (pair_of q) (pair_of c) (pair_of z) (d.ahead c at) on)
                    (λ (ik, jl). let (pairs, _) = alike z f ik jl in subst (λ x. Ahead a b (pair_of q) x) (sym pairs) (covers_ahead la lb (pair_of q) (pair_of q) (covers_same la lb (pair_of q))))
                    (more z f sn ez),
              );
            }

        -- what the place of q holds then
        pub held_here : Held a b roads base rs best' seen' q.end
        held_here =
            elim w [
              | shadowed eb s ↦ subst (λ x. Held a b roads base rs x seen' q.end) (sym eb) (when_shadowed s)
              | outdone eb s d ↦ subst (λ x. Held a b roads base rs x seen' q.end) (sym eb) (when_outdone d)
              | held eb s d ↦ subst (λ x. Held a b roads base rs x seen' q.end) (sym eb) (when_held s d)
            ]

      -- and what every other place holds stays
      pub kept : (place : ℕ) → (place ≡ q.end → ⊥) → get_or best' place None ≡ get_or best place None
      kept place other =
          elim w [
            | shadowed eb s ↦ ap (λ l. get_or l place None) eb
            | outdone eb s d ↦ ap (λ l. get_or l place None) eb
            | held eb s d ↦ ap (λ l. get_or l place None) eb ∙ get_or-set_other best q.end place (Some q) None other
          ]

  -- an extension of a row by a road of the network ends at one of its places
  pub ends_low : (roads : List Road) (base : ℕ) (rs : List (Row V W)) (j from number : ℕ) (p : Row V W) (r : Road) (q : Row V W) → Standing a b roads base rs → Numbered roads j r → Built a b p r from number q → q.end < 2048
  ends_low roads base rs j from number p r q s n w = omega (arith, (s.named j r n).ends, s.small, w.ends)

  -- an offer keeps the length
  pub weighed_length : (rs : List (Row V W)) (q : Row V W) (o : Option ℕ) (best best' : List (Option (Row V W))) → Weighed a b rs q o best best' → length best' ≡ length best
  weighed_length rs q o best best' (shadowed eb s) = ap length eb
  weighed_length rs q o best best' (outdone eb s d) = ap length eb
  weighed_length rs q o best best' (held eb s d) = ap length eb ∙ length-set best q.end (Some q)

  -- the row of index i with road j behind it was offered
  pub tried_by : (roads : List Road) (base : ℕ) (rs : List (Row V W)) (i j : ℕ) (p : Row V W) (r : Road) (q : Row V W) (last : List (Option ℕ)) (best best' : List (Option (Row V W))) → Follows a b roads rs i j → RowAt rs i p → Numbered roads j r → Built a b p r (base + i) j q → q.end < 2048 → Passing a b q → Weighed a b rs q (get_or last q.end None) best best' → Tried a b roads base rs i j last best best'
  tried_by roads base rs i j p r q last best best' f at n w low passing weighed =
      let (free, starts) = f.meets p r at n in
      record {
        row = p;
        road = r;
        next = q;
        extends = record { row = at; road = n; free = free; starts = starts; ends = w.ends; first = w.first; second = w.second; longer = w.longer; source = w.source };
        within = low;
        passing = passing;
        weighed = weighed;
      }
