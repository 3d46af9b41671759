-- Laws of conformity: the answer holds for every reading, is at most what is known
-- beforehand, is changed by no alteration, and is no greater than necessary.
use Rattle.promises.proofs.Names.{◌≡◌, refl, sym, ap, ◌∙◌, subst, false, List, [], ◌∷◌, map, None, Some, ℕ, ◌+◌, ◌*◌, arith, ℤ, pos, nat_abs, ◌+ℤ◌, ◌-ℤ◌, ◌*ℤ◌, ◌<ℤ◌, sub-parts-ℤ, abs-parts, lt_z-parts, Outcome}
use Rattle.promises.proofs.Names.{Ok, Err, good-same, Bytes, pack, image-bytes, Domain, Electrical, Physical, Pair, D, R, billion, Calibration, bare, table, curve, Contents, contents, pair_in, pairs_in}
use Rattle.promises.proofs.Names.{points, segment_in, segments_in, contents-accepted, CalibrationAt, Some, domain_in, Sheet, pairs_lent, listed, build, Rises, Slopes, WithinOf, deviation, certificate_line}
use Rattle.promises.proofs.Names.{close-conforms, CertificateBound, distance, by_slope, told-by, least-slope, no-slope, taking, is_resistance, least, greatest, position, calibration-table, shown, by-deviation}
use Rattle.promises.proofs.Names.{greatest_difference, compared_with, straight_table, compared, conformity, greatest-within, greatest-least, greatest-attained, compares-refused, compares, compared-from}
use Rattle.promises.proofs.Names.{straight-points, kept_pair, altered, held, Straight, least_in, greatest_in, line_for, StraysAtMost, Conforms, FigureConforms, BeforehandIsKept, NoAlterationMoves, BoundTight, NoCurve}
use Rattle.promises.proofs.PlannedSheet.{plan-parts}
use Rattle.promises.proofs.Written.{built, written-and-read-again}
use Rattle.promises.proofs.AfterAlterations.{after-alterations, refused-after, held_keeps, held-calibration}
use Rattle.promises.proofs.StoredPoints.{stored-close, stored-rises}
use Rattle.promises.proofs.KeptLent.{kept-lent, ends_read}
use Rattle.promises.proofs.Distance.{planned-pairs, straight-lent}
use Rattle.promises.proofs.Beforehand.{told-where-built}
use Rattle.promises.proofs.FigureLines.{figure-strays}

-- ---- every reading

conforming : (stored lent : List Pair) (K : ℕ) (q v e f low high : ℤ) → Rises stored → Rises lent → Slopes K lent → e <ℤ f →
    q ≡ position v e f +ℤ deviation stored (position v e f) → low ≡ e → high ≡ f →
    WithinOf (greatest_difference stored lent) K q (certificate_line lent ((v -ℤ low) *ℤ pos billion) (nat_abs (high -ℤ low)))
unfolding position
conforming stored lent K q v e f low high rs rl slopes span r l g =
    rw (r, l, g)
    (greatest-within stored lent rs rl K ((v -ℤ e) *ℤ pos billion) (nat_abs (f -ℤ e)) (omega (arith, lt_z-parts e f span.lt, sub-parts-ℤ f e, abs-parts (f -ℤ e))) slopes)

-- The points of an accepted image rise.
stored-rise : (kind : ℕ) (image : List ℕ) (c : Contents) → contents kind image ≡ Ok c → Rises (map pair_in (pairs_in c.calibration))
stored-rise kind image c e = (calibration-table _ c.calibration (contents-accepted kind image c e).holding.formed.calibrated).rises

pub conforms : Conforms
conforms kind image lent v dash r d told taken =
    let k = compared-from kind image lent d told in
    let s = shown kind image v dash r taken in
    let c = s.holds in
    let same : k.holds ≡ c = good-same (sym k.accepted ∙ s.accepted) in
    let table = straight-points c.calibration k.stored (subst (λ (x : Contents). straight_table x.calibration ≡ Some k.stored) same k.straight) in
    let ends = ends_read kind image c s.accepted in
    subst (λ (x : CertificateBound). StraysAtMost x.bound r.fraction (line_for lent v (least_in kind image) (greatest_in kind image))) k.is
    (conforming k.stored (pairs_lent lent) k.beforehand.slope r.fraction v (least c) (greatest c) _ _
    (subst Rises table.0 (stored-rise kind image c s.accepted)) (taking lent k.beforehand k.distance).table.rises (least-slope lent k.beforehand k.distance).meets s.rises
    (s.shows ∙ by-deviation c.calibration _ table.1 ∙ ap (λ (pairs : List Pair). position v (least c) (greatest c) +ℤ deviation pairs (position v (least c) (greatest c))) table.0)
    ends.0 ends.1)

straight-plain : (k : Calibration) (stored : List Pair) → straight_table k ≡ Some stored → NoCurve k
straight-plain bare stored e = tt
straight-plain (table domain pairs) stored e = tt
straight-plain (curve segments) stored e = absurd (let z : ◌≡◌ {A = ℕ} 0 1 = cc in omega arith)

pub figure-conforms : FigureConforms
figure-conforms kind image lent v dash r d told taken =
    let k = compared-from kind image lent d told in
    figure-strays kind image k.holds v dash r d.bound _ k.accepted (straight-plain k.holds.calibration k.stored k.straight) taken
    (conforms kind image lent v dash r d told taken)

-- ---- known beforehand

straight-held : (at : ℕ) (k : Calibration) → CalibrationAt at k → (domain_in k ≡ Some Physical → ⊥) → map segment_in (segments_in k) ≡ [] → straight_table k ≡ Some (map pair_in (pairs_in k))
straight-held at bare h n e = refl
straight-held at (table Electrical pairs) h n e = refl
straight-held at (table Physical pairs) h n e = absurd (n refl)
straight-held at (curve []) h n e = absurd (omega (arith, h.some))
straight-held at (curve (s ∷ segments)) h n e = absurd (let z : ◌≡◌ {A = ℕ} 0 1 = cc in omega arith)

listed-told : (kind : ℕ) (buffer : List ℕ) (sheet : Sheet) (text : List ℕ) (domain : Domain) (lent : List ℤ) (image : List ℕ) → Straight domain lent → build kind buffer sheet text domain lent ≡ Ok image →
    (d : CertificateBound) × (distance lent ≡ Ok d)
listed-told kind buffer sheet text domain [] image h e = (by_slope 0, no-slope.0)
listed-told kind buffer sheet text Electrical (x ∷ lent) image h e = told-where-built kind buffer sheet text (x ∷ lent) image e
listed-told kind buffer sheet text Physical (x ∷ lent) image h e = absurd h

pub told-is-kept : BeforehandIsKept
told-is-kept kind buffer sheet text domain lent image alterations lendable real straight template made =
    let b = built kind buffer sheet text (listed domain lent) image made in
    let bytes : Bytes image = subst Bytes b.made (image-bytes b.sizes (pack b.pieces)) in
    let w = written-and-read-again kind buffer sheet text (listed domain lent) image lendable tt made in
    let last : List ℕ = altered image alterations in
    let c : Contents = held kind w.0 alterations in
    let accepted : contents kind last ≡ Ok c = after-alterations kind image w.0 alterations bytes real w.1 in
    let k = kept-lent kind buffer sheet text domain lent image alterations kind c lendable real made accepted in
    let bridge : is_resistance c.template ≡ false = ap is_resistance (held_keeps (λ x. x.template) (λ x i y. refl) kind w.0 alterations ∙ w.2.same_template ∙ template) in
    let (d, told) = listed-told kind buffer sheet text domain lent image straight made in
    let (ps, pairs) = planned-pairs domain (pairs_lent lent) _ (plan-parts sheet text (listed domain lent) b.pieces b.plans).behind_planned in
    let risen = stored-rises domain None 0 (pairs_lent lent) ps pairs in
    let table : straight_table c.calibration ≡ Some (map kept_pair (pairs_lent lent)) =
    straight-held _ c.calibration (contents-accepted kind last c accepted).holding.formed.calibrated (λ e. straight-lent domain lent straight (sym k.keeps_domain ∙ e)) k.keeps_segments
    ∙ ap Some k.keeps_points in
    let t = told-by lent d told in
    let most = greatest-least (map kept_pair (pairs_lent lent)) (pairs_lent lent) risen.kept risen.lent (1000 * R + d.slope * D)
    (close-conforms D R d.slope (pairs_lent lent) (map kept_pair (pairs_lent lent)) (stored-close domain None 0 (pairs_lent lent) ps pairs) risen.lent risen.kept (least-slope lent d told).meets) in
    record {
      beforehand = d;
      known = told;
      found = compared_with d.slope (map kept_pair (pairs_lent lent)) (pairs_lent lent);
      conforms = sym (ap (λ o. Ok (compared d.slope (pairs_lent lent) o)) (sym table) ∙ compares kind last lent accepted bridge told);
      slope = refl;
      bound = omega (arith, most, ap (λ (x : CertificateBound). x.bound) t.is, ap (λ (x : CertificateBound). x.slope) t.is, ap (λ (x : CertificateBound). x.slope * (D + 1)) t.is);
    }

-- ---- no change or commit

same_answer : (kind : ℕ) (image after : List ℕ) (lent : List ℤ) (c e : Contents) → contents kind image ≡ Ok c → contents kind after ≡ Ok e → e.template ≡ c.template → e.calibration ≡ c.calibration →
    conformity kind after lent ≡ conformity kind image lent
unfolding conformity
same_answer kind image after lent c e accepted again template calibration = rw (accepted, again, template, calibration)

pub no-alteration-moves : NoAlterationMoves
no-alteration-moves kind image lent alterations bytes real = go (contents kind image) refl
  where
    go : (o : Outcome Contents) → contents kind image ≡ o → conformity kind (altered image alterations) lent ≡ conformity kind image lent
    go (Err r) e = sym (compares-refused kind (altered image alterations) lent (refused-after kind r image alterations e)) ∙ compares-refused kind image lent e
    go (Ok c) e =
        same_answer kind image (altered image alterations) lent c (held kind c alterations) e (after-alterations kind image c alterations bytes real e)
        (held_keeps (λ x. x.template) (λ x i y. refl) kind c alterations) (held-calibration kind c alterations)

-- ---- no greater than necessary

pub bound-tight : BoundTight
bound-tight kind image lent c d accepted told =
    let k = compared-from kind image lent d told in
    let same : k.holds ≡ c = good-same (sym k.accepted ∙ accepted) in
    let table = straight-points c.calibration k.stored (subst (λ (x : Contents). straight_table x.calibration ≡ Some k.stored) same k.straight) in
    let rises = (taking lent k.beforehand k.distance).table.rises in
    record {
      greatest = greatest_difference (points c) (pairs_lent lent);
      is = sym (ap (λ (x : CertificateBound). x.bound) k.is) ∙ omega (arith, ap (λ (x : CertificateBound). x.slope) k.is, ap (λ (pairs : List Pair). greatest_difference pairs (pairs_lent lent)) table.0);
      attained = greatest-attained (points c) (pairs_lent lent) (stored-rise kind image c accepted) rises;
    }
