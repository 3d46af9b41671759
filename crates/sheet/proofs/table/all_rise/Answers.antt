use Rattle.sheet.proofs.Names.{rules, ◌≡◌, refl, ap, ◌∙◌, true, false, ℕ, ◌+◌, ◌*◌, arith, and_mask, mask_lt, stream_in, pair_bits, not-physical, behind}
use Rattle.sheet.proofs.TableSteps.{risen-start, risen-next, risen-done}
use Rattle.sheet.proofs.table.all_rise.Goals as goal
use Rattle.sheet.proofs.table.all_rise.Goals.{in-Physical+else-sum-floor, in_default}

no : {A : Type 0} → false ≡ true → A
no e = absurd (let z : ◌≡◌ {A = ℕ} 0 1 = cc in omega arith)

pub loop-left-init : goal.loop-left-init
loop-left-init c =
    let a = c.args in
    (search rules, refl, risen-start (stream_in a.sizes a.image.now) a.domain a.count a.start.at)

pub read-read-requires : goal.read-read-requires
read-read-requires c =
    let h = c.requires in
    record { whole = h.0; inside = omega (arith, h.1, c.loop-left.invariant.1, c.loop-left-test.true); some = omega arith; most = omega arith }

pub returns-then-point-least : goal.returns-then-point-least
returns-then-point-least c = no

pub returns-then-point-eq65535 : goal.returns-then-point-eq65535
returns-then-point-eq65535 c = no

pub returns-then-deviation-eq2097151 : goal.returns-then-deviation-eq2097151
returns-then-deviation-eq2097151 c = no

pub overflow_cast-point : goal.overflow_cast-point
overflow_cast-point c = record { fits = mask_lt c.read-read.result.code 16 }

pub overflow_cast-deviation : goal.overflow_cast-deviation
overflow_cast-deviation c = record { fits = omega (arith, c.read-read.ensures.0) }

pub returns-then-sum-floor : goal.returns-then-sum-floor
returns-then-sum-floor c = no

pub overflow_add-floor : goal.overflow_add-floor
overflow_add-floor c = record { fits = omega (arith, c.sum_above-sum.ensures, mask_lt c.read-read.result.code 16, c.read-read.ensures.0) }

pub overflow_add-least : goal.overflow_add-least
overflow_add-least c = record { fits = omega (arith, mask_lt c.read-read.result.code 16) }

pub loop-left-preserved : goal.loop-left-preserved
loop-left-preserved c =
    let a = c.args in
    let h = c.requires in
    let i = c.loop-left.invariant in
    let more = c.loop-left-test.true in
    let both : ℕ = c.read-read.result.code in
    let point = and_mask both 16 in
    rw c.read-read.ensures.1 (
      omega (arith, i.0),
      omega (arith, i.1, more),
      risen-next (stream_in a.sizes a.image.now) a.domain _ _ _ _ _ _ i.2 both _ c.match-domain.floor more i.0 (omega (arith, h.1, i.1, more)) c.read-read.ensures.0
          (omega (arith, point, c.if-point-least.false)) (omega (arith, point)) (λ e. c.if-point-eq65535.false (point ∙ e)) c.if-deviation-eq2097151.false
          (elim c.match-domain.branch [
            | in-Physical+else-sum-floor w ↦ λ d. (omega (arith, point, w.sum_above-sum.ensures, w.if-sum-floor.false), omega (arith, point, w.sum_above-sum.ensures, w.floor-is))
            | in_default w ↦ not-physical w.in_default.is
          ]),
    )

pub returns : goal.returns
returns c e =
    let a = c.args in
    let i = c.loop-left.invariant in
    let end : a.start.at + pair_bits * a.count ≡ c.loop-left.cursor.at = omega (arith, i.1, c.loop-left-test.false) in
    ap (λ (k : ℕ). behind a.count (record { at = k })) end ∙ risen-done (stream_in a.sizes a.image.now) a.domain _ _ _ _ _ _ i.2 c.loop-left-test.false
