-- Laws of the small dash.
use Rattle.promises.proofs.Names.{◌≡◌, Bool, true, false, ltb, length, le-ltb, Refusal, Outcome, Ok, ◌>>◌, refuse◌if◌, WrongBlock, TooManyPoints, no_value_lem, good-bind, passed, contents, points, first_selector}
use Rattle.promises.proofs.Names.{is_resistance, take_reading, SmallShowsLarge, SmallTakesFew}

-- After the test of the points the two dashes continue alike.
goes_on : {A : Type 0} (t : Bool) (r : Refusal) (o : Outcome A) (a : A) → ((refuse r if t) >> o) ≡ Ok a → ((refuse r if false) >> o) ≡ Ok a
goes_on true r o a e = no_value_lem e
goes_on false r o a e = e

pub small-shows-large : SmallShowsLarge
unfolding take_reading
small-shows-large kind image v r e =
    let (c, accepted, f) = good-bind (contents kind image) _ r e in
    let (b, h) = passed (WrongBlock first_selector) (is_resistance c.template) _ r f in
    rw (accepted, b) (goes_on (ltb 32 (length (points c))) (TooManyPoints (length (points c))) _ r h)

pub small-takes-few : SmallTakesFew
unfolding take_reading
small-takes-few kind image c v e few = rw (e, le-ltb 32 (length (points c)) few)
