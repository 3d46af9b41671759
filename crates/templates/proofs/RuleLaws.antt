-- Laws of the codes that a rule accepts, for any width, start and step.
use Rattle.templates.proofs.Names.{◌≡◌, sym, ◌||◌, ℕ, ◌≤◌, ltb-false, le-ltb, ltb, ℤ, pos, Ok, OutsideTable, good-same, passed, neither, Value, Whole, Plain, Stepped, top_code, stepped_value, decode, always}

-- The value of a stepped code is the stepped value.
pub stepped-whole : (w : ℕ) (start : ℤ) (step at code : ℕ) (v : Value) → decode (always w (Stepped start step)) at code ≡ Ok v → v ≡ Whole (stepped_value start step code)
unfolding decode
stepped-whole w start step at code v e = sym (good-same (passed (OutsideTable at) (ltb (top_code w) code) _ v e).1)

-- A plain code is between its bounds, and the row can hold every code between them.
module _ (w least greatest at code : ℕ) where
  pub plain-bounds : (v : Value) → decode (always w (Plain least greatest)) at code ≡ Ok v → (least ≤ code) × (code ≤ greatest)
  unfolding decode
  plain-bounds v e =
      let n = neither (ltb code least) (ltb greatest code) (passed (OutsideTable at) (ltb code least || ltb greatest code) _ v e).0 in
      (ltb-false code least n.0, ltb-false greatest code n.1)

  pub plain-good : least ≤ code → code ≤ greatest → decode (always w (Plain least greatest)) at code ≡ Ok (Whole (pos code))
  unfolding decode
  plain-good l g = rw (le-ltb code least l, le-ltb greatest code g)
