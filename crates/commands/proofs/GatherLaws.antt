-- Laws of a line that is read byte by byte.
use Rattle.commands.proofs.Names.{◌≡◌, refl, Bool, true, false, not, List, Option, None, ℕ, ◌+◌, ◌≤◌, ◌<◌, add-one, arith, le-ltb, lt-ltb, length, get_or, take, drop, set, drop_of_length-le, drop-cons}
use Rattle.commands.proofs.Names.{length-take-le, take_all, take-suc-set, says◌if◌, more, next, after}

module _ (line : List ℕ) (n : ℕ) (long : Bool) (b : ℕ) where
  pub kept_full : length line ≤ n → None ≡ more (length line) (says take n line if not long) b
  kept_full h = go long
    where
      go : (t : Bool) → None ≡ more (length line) (says take n line if not t) b
      go true = refl
      go false = rw (take_all n line h, le-ltb (length line) (length line) (omega arith))

  pub kept_more : n < length line → (says take (n + 1) (set line n b) if not long) ≡ more (length line) (says take n line if not long) b
  kept_more h = go long
    where
      go : (t : Bool) → (says take (n + 1) (set line n b) if not t) ≡ more (length line) (says take n line if not t) b
      go true = refl
      go false = rw (add-one n, take-suc-set line n b h, length-take-le n line (omega arith), lt-ltb n (length line) h)

module _ (room : ℕ) (come : Option (List ℕ)) (block : List ℕ) (at : ℕ) where
  pub after-end : length block ≤ at → after room come (drop at block) ≡ come
  after-end h = rw (drop_of_length-le block h)

  pub gather-on : {long : ℕ} {now all : Option (List ℕ)} → at < length block → long ≡ room → now ≡ next long come (get_or block at 0) → after room come (drop at block) ≡ all → after room now (drop (at + 1) block) ≡ all
  gather-on h l e i = rw (e, l, add-one at) (rw (drop-cons block at 0 h) at i)
