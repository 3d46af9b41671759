use Rattle.index.proofs.Names.{rules, ◌≡◌, refl, sym, ap, ◌∙◌, ℕ, arith, end-few, entry_bytes, laid, first_entries}
use Rattle.index.proofs.Laying.{first_more}
use Rattle.index.proofs.EntryLaws.{pair-entry}
use Rattle.index.proofs.making.write_points.Goals as goal

pub locate_pair-requires : goal.locate_pair-requires
locate_pair-requires c = (omega (arith, c.requires.at_value.0, end-few c.args.layout), omega arith)

pub loop-i-init : goal.loop-i-init
loop-i-init c = (
  omega arith,
  omega (arith, c.last_field-first.ensures),
  refl,
  omega arith,
  λ layout e place begun. begun ∙ ap (λ (k : ℕ). laid c.args.buffer.now 0 (entry_bytes (first_entries layout k))) (sym e),
)

pub write_entry-cursor-requires : goal.write_entry-cursor-requires
write_entry-cursor-requires c =
    (omega arith, omega (arith, c.locate_pair.ensures, c.requires.at_value.0, end-few c.args.layout))

pub loop-i-preserved : goal.loop-i-preserved
loop-i-preserved c =
    let a = c.args in
    let (lo, hi, long, at, is) = c.loop-i.invariant in
    let (step, behind) = c.write_entry-cursor.ensures in
    let i = c.loop-i.i in (
      omega arith,
      omega arith,
      search rules,
      omega (arith, behind, at),
      λ layout e place begun.
          first_more layout a.buffer.now i (omega arith) (is layout e place begun) (pair-entry layout i _ e lo (omega (arith, at, place))) step,
    )

pub returns : goal.returns
returns c =
    let a = c.args in
    let n : c.loop-i.i ≡ a.count = omega arith in
    c.loop-i.invariant.4 a.layout c.last_field-first.ensures (omega (arith, c.locate_pair.ensures, c.requires.at_value.0)) c.requires.buffer_value
    ∙ ap (λ (k : ℕ). laid a.buffer.now 0 (entry_bytes (first_entries a.layout k))) n
