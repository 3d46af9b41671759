-- Laws of the images that are named blank.
use Rattle.promises.proofs.Names.{◌≡◌, refl, sym, ap, ◌∙◌, Bool, true, false, List, ◌∷◌, ℕ, ◌+◌, ◌-◌, ◌/◌, ◌%◌, ◌<◌, arith, length, get_or, Outcome, Ok, Err, ◌>>=◌, ◌>>◌, BlankChip, occurs, stream_rows, Other}
use Rattle.promises.proofs.Names.{other-number, Sizes, image_sizes, image_bytes, page_at, blank_from, sums_from, sums, sizes-chip, blank-all, all-blank, blank-at, at-blank, sums-other, Parsed, parse, Contents, sheet_of}
use Rattle.promises.proofs.Names.{stream_in, contents, parse-other, sheet-others, AllBlank, NamedBlank}

module _ (kind : ℕ) (image : List ℕ) (z : Sizes) (sizes : image_sizes kind (length image) ≡ Ok z) where
  whole : length image ≡ image_bytes z
  whole = (sizes-chip kind (length image) z sizes).long

  named : AllBlank z image → contents kind image ≡ Err BlankChip
  unfolding contents
  named f =
      let all : blank_from z image z.pages 0 ≡ true = all-blank z image z.pages 0 (λ q h k.
      at-blank z image whole q (omega arith) (λ i l. f (page_at z q + i) (omega arith) (omega arith))) in
      rw (sizes, all)

  blank : contents kind image ≡ Err BlankChip → AllBlank z image
  unfolding contents
  blank e i least below = go (blank_from z image z.pages 0) refl (rw sizes at e)
    where
      page : ℕ
      page = (i - z.register) / 32

      rest : ℕ
      rest = (i - z.register) % 32

      place : page_at z page + rest ≡ i
      place = omega arith

      after : Outcome Contents
      after = parse (stream_in z image) sheet_of 0 >>= λ x. Ok x.found

      other : (o : Outcome (Unit {0})) (p : Outcome (Parsed Contents)) → Other o → Other p → (o >> (p >>= λ x. Ok x.found)) ≡ Err BlankChip → ⊥
      other (Ok u) (Ok x) h k d = let n : ◌≡◌ {A = ℕ} 0 1 = cc in absurd (omega arith)
      other (Ok u) (Err r) h k d = absurd (let n : 0 < occurs 17 (2 ∷ stream_rows) = other-number (Err r) BlankChip d k in omega arith)
      other (Err r) p h k d = absurd (let n : 0 < occurs 17 (2 ∷ stream_rows) = other-number (Err r) BlankChip d h in omega arith)

      go : (b : Bool) → blank_from z image z.pages 0 ≡ b → (sums z image >> after) ≡ Err BlankChip → get_or image i 0 ≡ 255
      go true h d =
          ap (λ (n : ℕ). get_or image n 0) (sym place)
          ∙ blank-at z image whole page (omega arith) (blank-all z image z.pages 0 h page (omega arith) (omega arith)) rest (omega arith)
      go false h d =
          absurd (other (sums_from z image z.pages 0) (parse (stream_in z image) sheet_of 0) (sums-other z image z.pages 0)
          (parse-other (stream_in z image) sheet_of 0 sheet-others) (rw h at d))

pub named_blank : NamedBlank
named_blank kind image z sizes = record { named = named kind image z sizes; blank = blank kind image z sizes }
