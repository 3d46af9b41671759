use Rattle.reading.proofs.Names.{◌≡◌, sym, ◌∙◌, ℕ, Ok, same_of, Contents, Opens, span_of, Ready}
use Rattle.reading.proofs.Spans.{span-ready}
use Rattle.reading.proofs.taking.bridge_reading.Goals as goal
use Rattle.reading.proofs.taking.bridge_reading.Goals.{In_ok-span}

-- The span, whatever the image's contents.
found : (c : In_ok-span) →
    let a = c.args in
    (kind : ℕ) (x : Contents) → Opens kind a.image.now a.sheet x → span_of x ≡ Ok c.in_ok-span.span
found c kind x h = sym (same_of c.in_ok-span.was (c.span_in.ensures kind x h))

ready : (c : In_ok-span) → Ready c.in_ok-span.span
ready c = let k = c.requires in span-ready k.0.opens k.1 (found c _ _ k.0.opens)

pub is_too_far-requires : goal.is_too_far-requires
is_too_far-requires c = ready c

pub shown-requires : goal.shown-requires
shown-requires c = (c.requires.0, ready (goal.at.shown-requires c).In_ok-span, sym c.is_too_far.ensures ∙ c.if-is_too_far.false)
