use Rattle.build.proofs.Names.{◌≡◌, ◌∷◌, map, ◌+◌, ◌%◌, ◌^◌, arith, bit_and, and_mask, get_or, slice, field_piece, unpack, unpacked, Fitting}
use Rattle.build.proofs.Coding.{packed-left, packed-fits, packed-long, fields-end}
use Rattle.build.proofs.Filling.{gathering-ready, gathering-put, gather, gather-next, filled}
use Rattle.build.proofs.write.lay_codes.Goals as goal
use Rattle.build.proofs.write.lay_codes.Goals.{After-shared_slice_known-in-loop-i-1}

-- One turn's field, and those after it.
turn : (c : After-shared_slice_known-in-loop-i-1) →
    let a = c.args in
    let i = c.loop-i.i in
    slice i a.end (map field_piece (unpacked a.codes.now)) ≡ field_piece (unpack (get_or a.codes.now i 0)) ∷ slice (i + 1) a.end (map field_piece (unpacked a.codes.now))
turn c =
    let l = c.loop-i in
    packed-left c.args.codes.now l.i 0 c.args.end c.loop-i-test.true (omega (arith, packed-long c.args.codes.now c.requires.first_lt_end.2))

fits : (c : After-shared_slice_known-in-loop-i-1) →
    let a = c.args in
    let field = unpack (get_or a.codes.now c.loop-i.i 0) in
    Fitting field.width field.code
fits c =
    packed-fits c.args.codes.now c.loop-i.i 0 c.requires.first_lt_end.2 (omega (arith, c.loop-i-test.true))

code : (c : After-shared_slice_known-in-loop-i-1) → let field = get_or c.args.codes.now c.loop-i.i 0 in
    bit_and field 0xff_ffff_ffff_ffff ≡ field % 2 ^ 56
code c = and_mask _ 56

pub loop-i-preserved-then-width-more-le49 : goal.loop-i-preserved-then-width-more-le49
loop-i-preserved-then-width-more-le49 c =
    let l = c.loop-i in
    ((omega (arith, c.loop-i-test.true), λ _. omega (arith, (fits (goal.at.loop-i-preserved-then-width-more-le49 c).After-shared_slice_known-in-loop-i-1).some)), (l.invariant.1.0, rw (code (goal.at.loop-i-preserved-then-width-more-le49 c).After-shared_slice_known-in-loop-i-1) (gather _ l.invariant.1.1 (turn (goal.at.loop-i-preserved-then-width-more-le49 c).After-shared_slice_known-in-loop-i-1) (fits (goal.at.loop-i-preserved-then-width-more-le49 c).After-shared_slice_known-in-loop-i-1).fits c.if-width-more-le49.true)))

pub append-cursor-requires : goal.append-cursor-requires
append-cursor-requires c =
    let g = c.loop-i.invariant.1.1 in
    let ready = gathering-ready _ g (omega (arith, (fits (goal.at.append-cursor-requires c).After-shared_slice_known-in-loop-i-1).most, c.if-width-more-le49.false)) in
    record { in_stream = ready.0; image_bound = ready.1 }

pub loop-i-preserved : goal.loop-i-preserved
loop-i-preserved c =
    let l = c.loop-i in
    ((omega (arith, c.loop-i-test.true), λ _. (fits (goal.at.loop-i-preserved c).After-shared_slice_known-in-loop-i-1).some), (omega (arith, c.append-cursor.auto, l.invariant.1.0), rw (code (goal.at.loop-i-preserved c).After-shared_slice_known-in-loop-i-1) (gather-next _ l.invariant.1.1 (turn (goal.at.loop-i-preserved c).After-shared_slice_known-in-loop-i-1) (fits (goal.at.loop-i-preserved c).After-shared_slice_known-in-loop-i-1).fits (omega (arith, (fits (goal.at.loop-i-preserved c).After-shared_slice_known-in-loop-i-1).most)) c.append-cursor.ensures)))

pub returns : goal.returns
returns c =
    let l = c.loop-i in
    let z = c.args.sizes in
    filled z (rw (fields-end (unpacked c.args.codes.now) l.i _ l.invariant.0.0 c.loop-i-test.false) at (gathering-put z l.invariant.1.1 c.append.ensures))
