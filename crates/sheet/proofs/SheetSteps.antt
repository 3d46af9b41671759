-- Laws of the check of a whole sheet.
use Rattle.sheet.proofs.Names.{◌≡◌, sym, ap, ◌∙◌, Bool, List, ◌++◌, map, ℕ, arith, length, length-map, Outcome, Ok, bind_assoc, bind-same, Sizes, Cursor, Layout, Template, basic, template_lines, lines_of, ends}
use Rattle.sheet.proofs.Names.{◌>>=◌, place, Stream, Parsed, parse, Found, Calibration, Contents, fields_of, first_block, calibration_of, ending_of, sheet_of, stream_in, last_choice, pair_in, pairs_in, segment_in}
use Rattle.sheet.proofs.Names.{segments_in, term_in, all_terms, behind_fields, parsed, parse-bind, parsed-by, laid-pieces, laid-length, last-append, basic-last, Opened, Counts, Outcome, Ok, domain_in, opened_as}
use Rattle.sheet.proofs.Names.{keeping, choice_on, counts_of, end_count, basic_choice, layout_at, opened_of, walked, ending_opened, calibration_opened, own_opened, block_opened, end_said, made, after_calibration, after_own}
use Rattle.sheet.proofs.Names.{after_block, after_basics}
use Rattle.sheet.proofs.Steps.{keep-through, carried}
use Rattle.refusal.specs.Outcome as outcome

-- The counts of a calibration, as a check returns them.
abbrev counts_in : Calibration → Counts
counts_in c = record {
  domain = domain_in c;
  points = length (map pair_in (pairs_in c));
  segments = length (map segment_in (segments_in c));
  terms = length (map term_in (all_terms (segments_in c)));
}

counts-are : (c : Calibration) → counts_in c ≡ counts_of c
counts-are c = λ j. record {
  domain = domain_in c;
  points = length-map (pairs_in c) pair_in j;
  segments = length-map (segments_in c) segment_in j;
  terms = length-map (all_terms (segments_in c)) term_in j;
}

-- The latest choice of a sheet is the one after its template's own fields.
choice-is : (s : Stream) (t : Template) (bs os : List Found) (n : ℕ) → Ok (parsed bs n) ≡ parse s (fields_of basic 0) 0 →
    last_choice (lines_of t) (bs ++ os) 0 ≡ last_choice (template_lines t) os 0
unfolding lines_of
choice-is s t bs os n e =
    let w = parsed-by s (fields_of basic 0) 0 (parsed bs n) (omega arith) (sym e) in
    last-append basic (template_lines t) bs os 0 (laid-length basic 0 0 bs (laid-pieces s.bits basic 0 0 w.pieces bs w.parses).1)
    ∙ ap (last_choice (template_lines t) os) (basic-last bs 0)

-- Opening by the format after each part.
module _ (z : Sizes) (s : Stream) where
  abbrev final : Parsed Contents → Outcome Opened
  final x = Ok (opened_as z x.found)

  module _ (bs : List Found) (n : ℕ) (e : Ok (parsed bs n) ≡ parse s (fields_of basic 0) 0) (t : Template) where
    abbrev chosen : List Found → Layout
    chosen os = layout_at t (choice_on (template_lines t) 0 os)

    from-ending : (os : List Found) (k : Calibration) (at : ℕ) → outcome.◌>>=◌ (parse s (after_calibration t (bs ++ os) k) at) final ≡ ending_opened z s (chosen os) (counts_of k) at
    from-ending os k at =
        keep-through end_count s ending_of (λ x. place >>= λ end. ends (made t (bs ++ os) k x end)) at final
        (λ x. Ok (opened_of z (chosen os) (behind_fields (chosen os)) (counts_of k) x.found x.next))
        (λ x h i.
        let layout : Layout = layout_at t (choice-is s t bs os n e i) in Ok (opened_of z layout (behind_fields layout) (counts-are k i) (end_count x.found) x.next))

    from-calibration : (os : List Found) (at : ℕ) → outcome.◌>>=◌ (parse s (after_own t (bs ++ os)) at) final ≡ calibration_opened z s (chosen os) at
    from-calibration os at =
        keep-through counts_of s calibration_of (after_calibration t (bs ++ os)) at final (λ c. ending_opened z s (chosen os) c.found c.next)
        (λ x h. from-ending os x.found x.next)

    from-own : (at : ℕ) → outcome.◌>>=◌ (parse s (after_block bs t) at) final ≡ own_opened z s t at
    from-own at =
        keep-through (choice_on (template_lines t) 0) s (fields_of (template_lines t) 0) (λ os. after_own t (bs ++ os)) at final
        (λ c. calibration_opened z s (layout_at t c.found) c.next) (λ x h. from-calibration x.found x.next)

  from_block : (bs : List Found) (n : ℕ) → Ok (parsed bs n) ≡ parse s (fields_of basic 0) 0 → (at : ℕ) →
      outcome.◌>>=◌ (parse s (after_basics bs) at) final ≡ block_opened z s at
  from_block bs n e at =
      ap (λ o. outcome.◌>>=◌ o final) (parse-bind s first_block (after_block bs) at)
      ∙ bind_assoc (parse s first_block at) (λ x. parse s (after_block bs x.found) x.next) final
      ∙ bind-same (parse s first_block at) (λ x. from-own bs n e x.found x.next)

-- Opening a whole sheet.
pub walked_by : (z : Sizes) (image : List ℕ) →
    let s = stream_in z image in outcome.◌>>=◌ (basic_choice s) (λ b. block_opened z s b.next) ≡ walked z image
unfolding sheet_of
walked_by z image =
    let s : Stream = stream_in z image in
    sym (keep-through (choice_on basic 0) s (fields_of basic 0) after_basics 0 (λ x. Ok (opened_as z x.found)) (λ b. block_opened z s b.next)
    (λ x h. from_block z s x.found x.next h x.next))

-- Opening the last part, with the place after the fields passed on.
pub sheet-opens : (z : Sizes) (s : Stream) (layout : Layout) (behind : ℕ) (counts : Counts) (at : ℕ) (x : (Outcome (Bool × ℕ × Cursor))) → end_said x ≡ keeping end_count (parse s ending_of at) → behind ≡ behind_fields layout →
    {end_bit : Bool} {characters : ℕ} {end : Cursor} → x ≡ Ok (end_bit, characters, end) →
    Ok (opened_of z layout behind counts (record { end_bit = end_bit; characters = characters }) end.at) ≡ ending_opened z s layout counts at
sheet-opens z s layout behind counts at x e f {end_bit} {characters} {end} h =
    ap (λ (n : ℕ). Ok (opened_of z layout n counts (record { end_bit = end_bit; characters = characters }) end.at)) f ∙ carried end_said _ h e
