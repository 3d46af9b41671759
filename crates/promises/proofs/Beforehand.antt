-- Proof that the distance known beforehand is that of the certificate, at the least slope.
use Rattle.promises.proofs.Names.{sym, ◌||◌, List, [], ◌∷◌, ◌%◌, eqb, ltb, ℤ, length, WrongList, passed, Electrical, pairs_lent, listed, plan, steepest, by_slope, distance-told, told-by, least-slope, Straight}
use Rattle.promises.proofs.Names.{ToldWhereBuilt, DistanceBeforehand}
use Rattle.promises.proofs.PlannedSheet.{plan-parts}
use Rattle.promises.proofs.Written.{built}
use Rattle.promises.proofs.Distance.{certificate-distance}

pub told-where-built : ToldWhereBuilt
unfolding plan
told-where-built kind buffer sheet text points image e =
    let b = built kind buffer sheet text (listed Electrical points) image e in
    let list = (passed (WrongList (length points)) (eqb (length points % 2) 1 || ltb 254 (length points)) _ b.pieces b.plans).0 in
    (by_slope (steepest (pairs_lent points)), sym (distance-told points list (plan-parts sheet text (listed Electrical points) b.pieces b.plans).behind_planned))

straight : (points : List ℤ) → Straight Electrical points
straight [] = tt
straight (x ∷ points) = tt

pub distance-holds : DistanceBeforehand
distance-holds kind buffer sheet text points image alterations readingKind v dash r d told lendable real made taken =
    let t = told-by points d told in
    rw (sym t.is)
    (certificate-distance kind buffer sheet text Electrical points image alterations readingKind v dash r (steepest (pairs_lent points)) lendable real (straight points) made taken
    (rw (sym t.is) at (least-slope points d told).meets))
