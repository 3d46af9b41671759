-- Laws of the segment of a curve that serves, found by
-- a loop from segment to segment, and of its terms.
use Rattle.reading.proofs.Names.{◌≡◌, refl, sym, ap, ap₂, ◌∙◌, subst, List, [], ◌∷◌, map, true, false, ℕ, suc, ◌+◌, ◌*◌, ◌≤◌, ◌<◌, arith, ℤ, length, get_or, lt_z, le-le_z, lt-le_z, lt_z-parts, nlt_z-parts, is_true}
use Rattle.reading.proofs.Names.{is_false, Segment, Stream, FoundTerm, FoundSegment, segment_in, term_in, TermStands, CurveStands, segment_at, segment_end, term_is, curve-behind, first-is, serving, serving_terms}
use Rattle.reading.proofs.Names.{terms_from, own_terms}

-- Terms in order.
terms-are : (s : Stream) (at : ℕ) (terms : List FoundTerm) → ((i : ℕ) (none : FoundTerm) → i < length terms → TermStands s (at + 39 * i) (get_or terms i none)) →
    terms_from s at (length terms) ≡ map term_in terms
terms-are s at [] h = refl
terms-are s at (t ∷ terms) h =
    ap₂ ◌∷◌ (term_is (subst (λ (n : ℕ). TermStands s n t) (omega arith) (h 0 t (omega arith))))
    (terms-are s (at + 39) terms (λ i none l. subst (λ (n : ℕ). TermStands s n (get_or terms i none)) (omega arith) (h (suc i) none (omega arith))))

module _ (p : ℤ) (s : Stream) (segments : List FoundSegment) where
  -- The segment at a place is the last of this many that are read, and serves among them.
  pub record Walked (at terms read : ℕ) : Type 0 where
    pub own : FoundSegment
    pub after : List FoundSegment
    pub stand : CurveStands s at (own ∷ after)
    pub many : terms ≡ length own.terms
    pub rest : read + length after ≡ length segments
    pub serves : serving_terms p segments ≡ map term_in (serving p own after).terms

  -- The first segment.
  pub walked-first : {at : ℕ} → CurveStands s at segments → 0 < length segments → (x : Segment) → x ≡ segment_at s at → Walked at x.terms 1
  walked-first {at} h l x e = go segments refl
    where
      go : (xs : List FoundSegment) → segments ≡ xs → Walked at x.terms 1
      go [] f = absurd (omega (arith, ap length f))
      go (own ∷ after) f =
          let c : CurveStands s at (own ∷ after) = subst (CurveStands s at) f h in
          record {
            own = own;
            after = after;
            stand = c;
            many = ap (λ (y : Segment). y.terms) (e ∙ first-is own after c);
            rest = omega (arith, ap length f);
            serves = ap (serving_terms p) f;
          }

  module _ {at terms read : ℕ} (w : Walked at terms read) where
    own-are : own_terms s at terms ≡ map term_in w.own.terms
    own-are =
        ap (own_terms s at) w.many
        ∙ terms-are s (at + 20) w.own.terms (λ i none l. subst (λ (n : ℕ). TermStands s (n + 20 + 39 * i) (get_or w.own.terms i none)) (w.stand.first w.own (omega arith)) ((w.stand.stand 0 w.own (omega arith)).terms i none l))

    serves-own : serving p w.own w.after ≡ w.own → own_terms s at terms ≡ serving_terms p segments
    serves-own e = own-are ∙ ap (λ (x : FoundSegment). map term_in x.terms) (sym e) ∙ sym w.serves

    -- No segment is after it.
    pub served-last : length segments ≤ read → own_terms s at terms ≡ serving_terms p segments
    unfolding serving
    served-last l = go w.after refl
      where
        go : (after : List FoundSegment) → w.after ≡ after → own_terms s at terms ≡ serving_terms p segments
        go [] e = serves-own (ap (serving p w.own) e)
        go (x ∷ after) e = absurd (omega (arith, w.rest, ap length e))

    -- The segment after it.
    record Next (x : Segment) : Type 0 where
      found : FoundSegment
      rest : List FoundSegment
      is : w.after ≡ found ∷ rest
      stand : CurveStands s (segment_end at terms) (found ∷ rest)
      same : x ≡ segment_in found

    serves-next : {x : Segment} (n : Next x) → lt_z p x.start ≡ false → serving p w.own w.after ≡ serving p n.found n.rest
    unfolding serving
    serves-next {x} n b = rw n.is (rw (le-le_z (segment_in n.found).start p (rw n.same at (nlt_z-parts p x.start (is_false b)))))

    module _ (l : read < length segments) (x : Segment) (e : x ≡ segment_at s (segment_end at terms)) where
      next-is : Next x
      next-is = go w.after refl
        where
          go : (after : List FoundSegment) → w.after ≡ after → Next x
          go [] f = absurd (omega (arith, w.rest, ap length f))
          go (found ∷ rest) f =
              let c : CurveStands s (segment_end at terms) (found ∷ rest) = subst (CurveStands s (segment_end at terms)) f (subst (λ (n : ℕ). CurveStands s (segment_end at n) w.after) (sym w.many) (curve-behind w.own w.after w.stand)) in
              record { found = found; rest = rest; is = f; stand = c; same = e ∙ first-is found rest c }

      -- The next segment starts after p, so this one serves.
      pub served-here : lt_z p x.start ≡ true → own_terms s at terms ≡ serving_terms p segments
      unfolding serving
      served-here b =
          let n = next-is in
          serves-own (rw n.is (rw (lt-le_z (segment_in n.found).start p (rw n.same at (lt_z-parts p x.start (is_true b))))))

      -- The next segment starts at or below p, so the loop goes on.
      pub walked_on : lt_z p x.start ≡ false → Walked (segment_end at terms) x.terms (read + 1)
      walked_on b =
          let n = next-is in
          record {
            own = n.found;
            after = n.rest;
            stand = n.stand;
            many = ap (λ (y : Segment). y.terms) n.same;
            rest = omega (arith, w.rest, ap length n.is);
            serves = w.serves ∙ ap (λ (t : FoundSegment). map term_in t.terms) {x = serving p w.own w.after} {y = serving p n.found n.rest} (serves-next n b);
          }
