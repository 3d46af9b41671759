use Rattle.codes.proofs.Names.{refl, ◌∙◌, ◌≡◌, ℕ, Bool, true, false, cond, arith, Scale, List, listed, length, ◌-◌, stored_at, top_code, scale_width, geometric_value, progression, TableOf, ◌≤◌}
use Rattle.codes.proofs.ScaleLaws.{list-rises, within-list, stored-by}
use Rattle.codes.proofs.tables.found.Goals as goal

-- What is found in the table of a scale is what its progression gives.
module _ {scale : Scale} {list : List ℕ} (table : TableOf scale list) where
  by-progression : (stores : Bool) (n : ℕ) → (stores ≡ false → n ≤ top_code (scale_width scale)) →
      cond stores (stored_at (listed list) (length list - 1) n) (listed list n) ≡ cond stores (stored_at (geometric_value (progression scale)) (top_code (scale_width scale)) n) (geometric_value (progression scale) n)
  by-progression true n low = stored-by table n
  by-progression false n low = table.entry n (low refl)

pub found_in-requires : goal.found_in-requires
found_in-requires c =
    let table = c.response_times.ensures in
    let p = rw c.in-ResponseTime.is at c.requires in
    ((λ e. omega (arith, table.long, p.0 e)), list-rises table, λ e. within-list table _ (p.1 e))

pub found_in-requires-in-Current : goal.found_in-requires-in-Current
found_in-requires-in-Current c =
    let table = c.currents.ensures in
    let p = rw c.in-Current.is at c.requires in
    ((λ e. omega (arith, table.long, p.0 e)), list-rises table, λ e. within-list table _ (p.1 e))

pub returns-in-ResponseTime : goal.returns-in-ResponseTime
returns-in-ResponseTime c =
    let same = c.in-ResponseTime.is in
    let p = rw same at c.requires in
    rw same (c.found_in.ensures.0 ∙ by-progression c.response_times.ensures _ _ p.0, c.found_in.ensures.1)

pub returns-in-Current : goal.returns-in-Current
returns-in-Current c =
    let same = c.in-Current.is in
    let p = rw same at c.requires in
    rw same (c.found_in-in-Current.ensures.0 ∙ by-progression c.currents.ensures _ _ p.0, c.found_in-in-Current.ensures.1)
