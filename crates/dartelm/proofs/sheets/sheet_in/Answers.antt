use Rattle.dartelm.proofs.Names.{ℕ, ◌≡◌, sym, ap, ◌∙◌, List, length, arith, Opened, Contents, Opens, template_flag, end-byte, Layout, last_field, last-most}
use Rattle.dartelm.proofs.Names.{fields-count, layout_is, holding}
use Rattle.dartelm.proofs.SheetReads.{one_more, all_told}
use Rattle.dartelm.proofs.sheets.sheet_in.Goals as goal

-- As many fields as the template has.
counted : {kind : ℕ} {image : List ℕ} {o : Opened} {x : Contents} → Opens kind image o x → {count : ℕ} → count ≡ last_field o.layout.template → count ≡ length x.fields
counted h e = e ∙ ap (λ (l : Layout). last_field l.template) (layout_is h) ∙ sym (fields-count (holding h).formed)

pub loop-at-init : goal.loop-at-init
loop-at-init c = (omega arith, λ k x h. rw c.no_value-values.ensures)

pub value_in-requires : goal.value_in-requires
value_in-requires c = (c.requires, omega arith, omega (arith, c.last_field-count.ensures))

pub offset_bounds-values-at : goal.offset_bounds-values-at
offset_bounds-values-at c = omega (arith, c.last_field-count.ensures, last-most c.args.sheet.layout.template)

pub bounds-values-at : goal.bounds-values-at
bounds-values-at c = omega (arith, c.last_field-count.ensures, last-most c.args.sheet.layout.template)

pub loop-at-preserved : goal.loop-at-preserved
loop-at-preserved c = (
  omega arith,
  λ k x h.
      one_more x c.loop-at.at _ _ _ (omega (arith, c.last_field-count.ensures, last-most c.args.sheet.layout.template))
      (omega (arith, counted h c.last_field-count.ensures)) (c.loop-at.invariant.1 k x h) (c.value_in.ensures k x h) c.by_flags.ensures,
)

pub returns : goal.returns
returns c =
    λ k x h.
    rw (end-byte c.args.sheet.summary.end_bit)
    (all_told x c.loop-at.at _ _ c.args.sheet.summary _ _ c.loop-at-test.false (counted h c.last_field-count.ensures)
    (c.template_flag.ensures ∙ ap template_flag (ap (λ (y : Layout). y.template) (layout_is h) ∙ sym (ap (λ (o : Opened). o.summary.template) h.is)))
    c.domain_number.ensures
    (c.loop-at.invariant.1 k x h) (ap (λ (o : Opened). o.summary) h.is))
