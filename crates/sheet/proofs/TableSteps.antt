-- Laws of the check of block 40.
use Rattle.sheet.proofs.Names.{◌≡◌, refl, sym, ap, ap₂, ◌∙◌, List, ◌∷◌, Option, None, Some, ℕ, suc, ◌+◌, ◌-◌, ◌/◌, ◌%◌, ◌^◌, ◌≤◌, ◌<◌, arith, length, Refusal, Outcome, Ok, Err, said_of, field_at, Cursor}
use Rattle.sheet.proofs.Names.{Codes, Domain, Physical, all_ones, cal_domain, domain_of, point_count, cal_point, cal_deviation, codes_of, follows, Format, ends, ◌>>=◌, ◌>>◌, given, Stream, Parsed, parse, Found}
use Rattle.sheet.proofs.Names.{FoundPair, Calibration, table, paired, codes_in, field_of, pair_of, pairs_of, table_of, pair_bits, sum_above, Admits, admits-first, admits-next, codes_from, pair-rises, Outcome, Ok}
use Rattle.sheet.proofs.Names.{Err, Outcome, Ok, Some, Counts, keeping, Coded, coded, counts_of, table_from, behind, code_said, step_said, following}
use Rattle.sheet.proofs.Steps.{keep-next, keep-refused, keep-made, keep-twice, count_left, count-start, count-more, count-done}
use Rattle.refusal.specs.Outcome as outcome

-- ---- the codes of a pair

module _ (s : Stream) (domain : Domain) (before : Option Codes) (at : ℕ) (x : (Outcome (ℕ × Cursor))) (e : code_said at x ≡ keeping coded (parse s (field_of cal_point) at)) where
  abbrev with_deviation : Found → Format FoundPair
  with_deviation p = field_of cal_deviation >>= following domain before p

  pub point-halts : {r : Refusal} → x ≡ Err r → Err r ≡ keeping codes_in (parse s (pair_of domain before) at)
  unfolding pair_of
  point-halts h = sym (ap (keeping codes_in) (keep-refused coded s (field_of cal_point) with_deviation at (said_of (code_said at) h e)))

  module _ {code : ℕ} {next : Cursor} (h : x ≡ Ok (code, next)) (y : (Outcome (ℕ × Cursor)))
      (f : code_said next.at y ≡ keeping coded (parse s (field_of cal_deviation) next.at)) where
    at-deviation : (p : Found) × (coded p ≡ record { at = at; code = code }) × (parse s (pair_of domain before) at ≡ parse s (with_deviation p) next.at)
    unfolding pair_of
    at-deviation = keep-next coded s (field_of cal_point) with_deviation at (said_of (code_said at) h e)

    pub deviation-halts : {r : Refusal} → y ≡ Err r → Err r ≡ keeping codes_in (parse s (pair_of domain before) at)
    deviation-halts g =
        let (p, q, w) = at-deviation in
        sym (ap (keeping codes_in) (w ∙ keep-refused coded s (field_of cal_deviation) (following domain before p) next.at (said_of (code_said next.at) g f)))

    pub pair-follows : {code' : ℕ} {end : Cursor} → y ≡ Ok (code', end) →
        outcome.◌>>◌ (follows domain before at (codes_of code code')) (behind (codes_of code code') end) ≡ keeping codes_in (parse s (pair_of domain before) at)
    pair-follows {code'} {end} g =
        let (p, q, w) = at-deviation in
        let (d, q', w') = keep-next coded s (field_of cal_deviation) (following domain before p) next.at (said_of (code_said next.at) g f) in
        ap₂ (λ (u v : Coded). outcome.◌>>◌ (follows domain before u.at (codes_of u.code v.code)) (behind (codes_of u.code v.code) end)) (sym q) (sym q')
        ∙ go (follows domain before p.at (codes_in (paired p d))) (paired p d)
        ∙ sym (ap (keeping codes_in) (w ∙ w'))
      where
        go : (o : Outcome (Unit {0})) (r : FoundPair) → outcome.◌>>◌ o (behind (codes_in r) end) ≡ keeping codes_in (parse s (given o >> ends r) end.at)
        go (Ok u) r = refl
        go (Err q) r = refl

-- ---- pairs in order

-- The count of n pairs, with this many left after one.
abbrev pub pairs_left : Stream → Domain → ℕ → Option Codes → ℕ → ℕ → Outcome (Parsed ℕ)
pairs_left s domain n before left at = count_left s (λ (k : ℕ). pairs_of domain k before) n left at

module _ (s : Stream) (domain : Domain) (n : ℕ) (before : Option Codes) (left at : ℕ) (more : 0 < left) (most : left ≤ n) (x : (Outcome (Codes × Cursor)))
    (e : step_said x ≡ keeping codes_in (parse s (pair_of domain before) at)) where
  abbrev others : FoundPair → Format (List FoundPair)
  others p = pairs_of domain (left - 1) (Some (codes_in p)) >>= λ rest. ends (p ∷ rest)

  abbrev passed : List FoundPair → ℕ
  passed l = n - left + length l

  at_pair : parse s (pairs_of domain left before) at ≡ parse s (pair_of domain before >>= others) at
  unfolding pairs_of
  at_pair = let m : left ≡ suc (left - 1) = omega arith in ap (λ (k : ℕ). parse s (pairs_of domain k before) at) m

  pub pairs-halt : {r : Refusal} → x ≡ Err r → pairs_left s domain n before left at ≡ Err r
  pairs-halt h = ap (keeping passed) (at_pair ∙ keep-refused codes_in s (pair_of domain before) others at (said_of step_said h e))

  pub pairs_next : {codes : Codes} {next : Cursor} → x ≡ Ok (codes, next) → pairs_left s domain n before left at ≡ pairs_left s domain n (Some codes) (left - 1) next.at
  pairs_next {codes} {next} h =
      let (p, q, w) = keep-next codes_in s (pair_of domain before) others at (said_of step_said h e) in
      ap (keeping passed) (at_pair ∙ w) ∙ count-more s (λ (k : ℕ). pairs_of domain k (Some (codes_in p))) n p left next.at more most
      ∙ ap (λ c. pairs_left s domain n (Some c) (left - 1) next.at) q

-- ---- pairs that rise

-- This many of n pairs are left at a place, after one that
-- any pair with such a point and such a sum may follow.
pub record Risen (s : Stream) (domain : Domain) (n start at least floor left : ℕ) : Type 0 where
  pub before : Option Codes
  pub admits : Admits domain before least floor
  pub rest : pairs_left s domain n before left at ≡ keeping length (parse s (pairs_of domain n None) start)

module _ (s : Stream) (domain : Domain) (n start : ℕ) where
  pub risen-start : Risen s domain n start start 0 0 n
  risen-start = record { before = None; admits = admits-first domain 0 0; rest = count-start s (λ (k : ℕ). pairs_of domain k None) n start }

  module _ (at least floor left : ℕ) (h : Risen s domain n start at least floor left) where
    pub risen-next : (both least' floor' : ℕ) → 0 < left → left ≤ n → at + pair_bits ≤ s.bits → both ≡ field_at s.number at pair_bits →
        least ≤ both % 2 ^ 16 → both % 2 ^ 16 < least' → (both % 2 ^ 16 ≡ all_ones 16 → ⊥) → (both / 2 ^ 16 ≡ all_ones 21 → ⊥) →
        (domain ≡ Physical → (floor ≤ sum_above (codes_from both)) × (sum_above (codes_from both) < floor')) →
        Risen s domain n start (at + pair_bits) least' floor' (left - 1)
    risen-next both least' floor' more most inside e l m hp hd g =
        let p = pair-rises s at both e domain h.before least floor h.admits inside l hp hd (λ d. (g d).0) in
        let next : Cursor = record { at = at + pair_bits } in
        record {
          before = Some (codes_from both);
          admits = admits-next domain (codes_from both) least' floor' m (λ d. (g d).1);
          rest = sym (pairs_next s domain n h.before left at more most (Ok ((codes_from both), next)) (sym (ap (keeping codes_in) p)) refl) ∙ h.rest;
        }

    pub risen-done : left ≤ 0 → Ok (record { found = n; next = at }) ≡ keeping length (parse s (pairs_of domain n None) start)
    unfolding pairs_of
    risen-done z = sym (count-done s (λ (k : ℕ). pairs_of domain k h.before) n left at refl z) ∙ h.rest

-- ---- the table of these pairs

module _ (s : Stream) (domain : Domain) (n at : ℕ) (x : (Outcome (ℕ × Cursor))) (e : step_said x ≡ keeping length (parse s (pairs_of domain n None) at)) where
  abbrev in_domain : ℕ → Counts
  in_domain k = record { domain = Some domain; points = k; segments = 0; terms = 0 }

  listed-as : keeping in_domain (step_said x) ≡ keeping counts_of (parse s (table_from domain n) at)
  listed-as =
      ap (keeping in_domain) e ∙ keep-twice in_domain length (parse s (pairs_of domain n None) at)
      ∙ sym (keep-made counts_of (table domain) s (pairs_of domain n None) at)

  pub listed-halts : {r : Refusal} → x ≡ Err r → Err r ≡ keeping counts_of (parse s (table_from domain n) at)
  listed-halts h = said_of (λ w. keeping in_domain (step_said w)) h listed-as

  pub listed-stands : {k : ℕ} {end : Cursor} → x ≡ Ok (k, end) → behind (in_domain k) end ≡ keeping counts_of (parse s (table_from domain n) at)
  listed-stands h = said_of (λ w. keeping in_domain (step_said w)) h listed-as

-- ---- the block after its template number

module _ (s : Stream) (at : ℕ) (x : (Outcome (ℕ × Cursor))) (e : code_said at x ≡ keeping coded (parse s (field_of cal_domain) at)) where
  abbrev listed : Domain → Found → Format Calibration
  listed domain n = table_from domain n.code

  abbrev with_count : ℕ → Format Calibration
  with_count code = field_of point_count >>= listed (domain_of code)

  pub domain-halts : {r : Refusal} → x ≡ Err r → Err r ≡ keeping counts_of (parse s table_of at)
  unfolding table_of
  domain-halts h = sym (ap (keeping counts_of) (keep-refused coded s (field_of cal_domain) (λ d. with_count d.code) at (said_of (code_said at) h e)))

  module _ {code : ℕ} {count : Cursor} (h : x ≡ Ok (code, count)) (y : (Outcome (ℕ × Cursor)))
      (f : code_said count.at y ≡ keeping coded (parse s (field_of point_count) count.at)) where
    at_count : parse s table_of at ≡ parse s (with_count code) count.at
    unfolding table_of
    at_count =
        let (d, q, p) = keep-next coded s (field_of cal_domain) (λ d. with_count d.code) at (said_of (code_said at) h e) in
        p ∙ ap (λ (v : Coded). parse s (with_count v.code) count.at) q

    pub count-halts : {r : Refusal} → y ≡ Err r → Err r ≡ keeping counts_of (parse s table_of at)
    count-halts g = sym (ap (keeping counts_of) (at_count ∙ keep-refused coded s (field_of point_count) (listed (domain_of code)) count.at (said_of (code_said count.at) g f)))

    pub count-stands : {n : ℕ} {pairs : Cursor} → y ≡ Ok (n, pairs) →
        keeping counts_of (parse s (table_from (domain_of code) n) pairs.at) ≡ keeping counts_of (parse s table_of at)
    count-stands {n} {pairs} g =
        let (c, q, p) = keep-next coded s (field_of point_count) (listed (domain_of code)) count.at (said_of (code_said count.at) g f) in
        ap (λ (v : Coded). keeping counts_of (parse s (table_from (domain_of code) v.code) pairs.at)) (sym q) ∙ sym (ap (keeping counts_of) (at_count ∙ p))
