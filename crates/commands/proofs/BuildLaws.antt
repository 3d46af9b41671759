-- What a build's words hand to the call: a text and points at the start of a room, and the room's first bytes to be written.
use Rattle.std.specs.Prelude.{min}
use Rattle.commands.proofs.Names.{◌≡◌, refl, ap, ◌∙◌, Bool, true, false, List, Option, ℕ, ℤ, arith, length, take, take_all, ltb, ltb-true, ltb-false, filled, filled_said, front_said, within}
use Rattle.commands.proofs.Names.{Sheet, Head, built_by}
use Rattle.commands.proofs.ReplyLaws.{lent-front}

pub filled-front : {A : Type 0} (said : List (Option A)) (first held : List A) {r x : Option ℕ} → r ≡ x → filled_said r held ≡ filled said first → front_said x held ≡ within (length first) said
filled-front {A = A} said first held k e = lent-front (λ (s : List (Option A)). s) first held k e refl

-- ---- the first bytes of a room

short-take : (n : ℕ) (room : List ℕ) → take (min n (length room)) room ≡ take n room
short-take n room = go (ltb (length room) n) refl
  where
    go : (b : Bool) → ltb (length room) n ≡ b → take (min n (length room)) room ≡ take n room
    go true e =
        let m : min n (length room) ≡ length room = omega (arith, ltb-true (length room) n e) in
        rw (m, take_all (length room) room (omega arith), take_all n room (omega (arith, ltb-true (length room) n e)))
    go false e = let m : min n (length room) ≡ n = omega (arith, ltb-false (length room) n e) in rw m

module _ (room text : List ℕ) (points : List ℤ) (line : List ℕ) (head : Head) (sheet : Sheet) where
  pub built-front : {n : ℕ} → n ≡ min head.length (length room) → built_by (take n room) (length text) (length points) line head sheet ≡ built_by (take head.length room) (length text) (length points) line head sheet
  built-front e = ap (λ (m : List ℕ). built_by m (length text) (length points) line head sheet) (ap (λ (n : ℕ). take n room) e ∙ short-take head.length room)
