use Rattle.reading.proofs.Names.{rules, ◌≡◌, ◌∙◌, [], ◌∷◌, w64, to_z-of_z, stream_in, with_term, few-powers}
use Rattle.reading.proofs.Terms.{one-taken}
use Rattle.reading.proofs.physical_fraction.powers_of.Goals as goal

pub loop-index-preserved : goal.loop-index-preserved
loop-index-preserved c =
    let run = c.args.run in
    let (few, all) = c.loop-index.invariant in
    let term = c.term_at-term.result in
    let more : c.with-powers.result ≡ with_term c.loop-index.powers term = rw (to_z-of_z {w = w64} {z = term.exponent} (search rules)) at c.with-powers.ensures in (
      rw more (few-powers (term ∷ []) c.loop-index.powers few),
      rw more
          (one-taken (stream_in c.args.sizes c.args.image.now) run.cursor.at run.terms c.loop-index.index c.loop-index.powers c.loop-index-test.true term c.term_at-term.ensures c.segment_end.ensures ∙ all),
    )
