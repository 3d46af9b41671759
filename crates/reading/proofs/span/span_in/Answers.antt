use Rattle.refusal.proofs.Outcomes.{exits}
use borrow.Enum.Refused.{opened}
use Rattle.reading.proofs.Names.{rules, sym, ◌∙◌, arith, w64, to_z-of_z, same_of, span-listed, span-unscaled}
use Rattle.reading.proofs.Opening.{bridge}
use Rattle.reading.proofs.Spans.{no-low, no-high, by-ends}
use Rattle.reading.proofs.span.span_in.Goals as goal

pub unscaled_in-requires : goal.unscaled_in-requires
unscaled_in-requires c = record { held = (search rules, search rules, span-listed _ (omega arith)); unscaled = (span-unscaled _ (bridge _ c.requires.1)).0 }

pub returns-in_default : goal.returns-in_default
returns-in_default c = λ kind x h. no-low h c.requires.1 (c.unscaled_in.ensures kind x h) (opened c.in_default.in_default-own.keys2)

pub unscaled_in-requires-2 : goal.unscaled_in-requires-2
unscaled_in-requires-2 c = record { held = (search rules, search rules, span-listed _ (omega arith)); unscaled = (span-unscaled _ (bridge _ c.requires.1)).1 }

pub returns-in_default-unscaled_in : goal.returns-in_default-unscaled_in
returns-in_default-unscaled_in c =
    λ kind x h.
    no-high h c.requires.1 (sym (c.unscaled_in.ensures kind x h) ∙ c.in-Single.is) (c.unscaled_in-2.ensures kind x h) (opened c.in_default-unscaled_in.in_default-unscaled_in-own.keys2)

pub unscaled_in-requires-3 : goal.unscaled_in-requires-3
unscaled_in-requires-3 c = record { held = (search rules, search rules, span-listed _ (omega arith)); unscaled = (span-unscaled _ (bridge _ c.requires.1)).2 }

pub unscaled_in-requires-4 : goal.unscaled_in-requires-4
unscaled_in-requires-4 c = record { held = (search rules, search rules, span-listed _ (omega arith)); unscaled = (span-unscaled _ (bridge _ c.requires.1)).3 }

pub returns-in_err-ends : goal.returns-in_err-ends
returns-in_err-ends c =
    λ kind x h.
    exits _ c.from_residual.ensures
    ∙ by-ends h c.requires.1 (sym (c.unscaled_in.ensures kind x h) ∙ c.in-Single.is) (sym (c.unscaled_in-2.ensures kind x h) ∙ c.in-Single-unscaled_in.is)
    (c.unscaled_in-3.ensures kind x h) (c.unscaled_in-4.ensures kind x h) (same_of c.in_err-ends.was c.ends_of.ensures)

pub returns : goal.returns
returns c =
    let ends = c.in_ok-ends.ends in
    λ kind x h.
    rw (to_z-of_z {w = w64} {z = ends.least} (search rules), to_z-of_z {w = w64} {z = ends.greatest} (search rules))
    (by-ends h c.requires.1 (sym (c.unscaled_in.ensures kind x h) ∙ c.in-Single.is) (sym (c.unscaled_in-2.ensures kind x h) ∙ c.in-Single-unscaled_in.is)
    (c.unscaled_in-3.ensures kind x h) (c.unscaled_in-4.ensures kind x h) (same_of c.in_ok-ends.was c.ends_of.ensures))
