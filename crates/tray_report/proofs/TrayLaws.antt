-- Laws of the report on a tray.
use Rattle.tray_report.proofs.Names.{◌≡◌, refl, sym, ap, ap₂, ◌∙◌, Bool, true, false, not, ◌&&◌, cond, List, [], ◌∷◌, ◌++◌, append_assoc, append-nil, map, ℕ, zero, suc, ◌+◌, ◌-◌, ◌≤◌, ◌<◌, sub-zero, zero-add}
use Rattle.tray_report.proofs.Names.{add-one, arith, dec_lt, lt-ltb, le-ltb, eq-eqb, ne_eqb, eqb-true, not-false, eqb, ltb, length, take, drop, length-append, take_at, drop_at, take_all, length-take-le, Refusal}
use Rattle.tray_report.proofs.Names.{Outcome, Ok, Err, WrongImage, good-bind, passed, no_value_lem, Sizes, sizes_of, image_bytes, image_sizes, sizes-kind, contents, Summary, check, SoFar, digits_up_to, First, cut}
use Rattle.tray_report.proofs.Names.{first_of, checks, line, lines_from, bits_of, total, total_line, report, bytes_of, is_whole, with, left, report_from, Sent, sent_bytes, Sized, check_of, sum_of, WholeTray, FullTray}
use Rattle.tray_report.proofs.Names.{CutShort, CutTray, PrintedExample, ToldFromTheStart, ToldInTurn, ToldAtTheEnd}

-- ---- an image and its bytes

no_kind : (kind : ℕ) (r : Refusal) → sizes_of kind ≡ Err r → r ≡ WrongImage
no_kind zero r e = no_value_lem (sym e)
no_kind (suc zero) r e = no_value_lem (sym e)
no_kind (suc (suc zero)) r e = no_value_lem (sym e)
no_kind (suc (suc (suc k))) r e = cc

-- An image that is not whole is refused with 1 by its check.
unsized : (kind : ℕ) (image : List ℕ) (r : Refusal) → image_sizes kind (length image) ≡ Err r → check kind image ≡ Err r
unfolding check contents
unsized kind image r e = rw e

-- The bytes that came of an image: its check, and the bytes after it if it is whole.
pub record Came (kind : ℕ) (bytes came : List ℕ) (first : First) : Type 0 where
  pub outcome : first.outcome ≡ check kind came
  pub behind : first.behind ≡ cond (is_whole (image_sizes kind (length came))) (drop (length came) bytes) []

pub came : (kind : ℕ) (bytes : List ℕ) → Came kind bytes (take (bytes_of (sizes_of kind)) bytes) (first_of kind bytes (sizes_of kind))
unfolding image_sizes
came kind bytes = go (sizes_of kind) refl
  where
    not-whole : (image : List ℕ) → image_sizes kind (length image) ≡ Err WrongImage → Came kind bytes image cut
    not-whole image e = record { outcome = sym (unsized kind image WrongImage e); behind = rw e }

    go : (o : Outcome Sizes) → sizes_of kind ≡ o → Came kind bytes (take (bytes_of o) bytes) (first_of kind bytes o)
    go (Err r) e = not-whole [] (rw (e, no_kind kind r e))
    go (Ok z) e = sized (dec_lt (length bytes) (image_bytes z))
      where
        sized : Dec (length bytes < image_bytes z) → Came kind bytes (take (image_bytes z) bytes) (first_of kind bytes (Ok z))
        sized (yes l) =
            rw (lt-ltb (length bytes) (image_bytes z) l, take_all (image_bytes z) bytes (omega arith))
            (not-whole bytes (sizes-kind kind (length bytes) z e ∙ rw (ne_eqb (length bytes) (image_bytes z) (λ i. omega arith))))
        sized (no l) =
            let n : length (take (image_bytes z) bytes) ≡ image_bytes z = length-take-le (image_bytes z) bytes (omega arith) in
            let w : image_sizes kind (length (take (image_bytes z) bytes)) ≡ Ok z = sizes-kind kind (length (take (image_bytes z) bytes)) z e ∙ rw (eq-eqb (length (take (image_bytes z) bytes)) (image_bytes z) n) in
            rw (le-ltb (length bytes) (image_bytes z) (omega arith)) (record { outcome = refl; behind = rw (w, n) })

none_left : (n : ℕ) → checks n [] ≡ []
unfolding checks
none_left zero = refl
none_left (suc n) = refl

-- ---- judged image by image

pub told-from-the-start : ToldFromTheStart
unfolding report report_from
told-from-the-start tray = rw (zero-add (total (checks 1_000 tray)))

pub told-at-the-end : ToldAtTheEnd
unfolding report_from checks
told-at-the-end s bytes = (λ e. rw e last, rw (none_left (left s)) last)
  where
    last : total_line (s.bits + 0) ≡ total_line s.bits
    last = ap total_line (omega arith)

-- The checks after an image are those of the tray with it.
module _ (s : SoFar) (kind : ℕ) (bytes image : List ℕ) (n : ℕ) (e : 1_000 - s.images ≡ suc n) where
  behind-as : (w : Bool) → checks n (cond w (drop (length image) bytes) []) ≡ checks (cond (w && ltb (s.images + 1) 1_000) (1_000 - (s.images + 1)) 0) (drop (length image) bytes)
  unfolding checks
  behind-as false = none_left n
  behind-as true = go (dec_lt (s.images + 1) 1_000)
    where
      go : Dec (s.images + 1 < 1_000) → checks n (drop (length image) bytes) ≡ checks (cond (ltb (s.images + 1) 1_000) (1_000 - (s.images + 1)) 0) (drop (length image) bytes)
      go (yes l) =
          let k : n ≡ 1_000 - (s.images + 1) = omega arith in
          rw (lt-ltb (s.images + 1) 1_000 l, k)
      go (no l) =
          let k : n ≡ 0 = omega arith in
          rw (le-ltb (s.images + 1) 1_000 (omega arith), k)

  pub next : s.more ≡ true → image ≡ take (bytes_of (sizes_of kind)) bytes → checks (left s) (kind ∷ bytes) ≡ check kind image ∷ checks (left (with s kind image)) (drop (length image) bytes)
  unfolding checks
  next m i =
      let c = came kind bytes in
      rw (m, e, c.outcome, c.behind, ← i) (ap (λ os. check kind image ∷ os) (behind-as (is_whole (image_sizes kind (length image)))))

pub told-in-turn : ToldInTurn
unfolding report_from
told-in-turn s kind bytes h m =
    let image = take (bytes_of (sizes_of kind)) bytes in
    let rest = checks (left (with s kind image)) (drop (length image) bytes) in
    let e : 1_000 - s.images ≡ suc (999 - s.images) = omega (arith, h.last m) in
    let sum : s.bits + (bits_of (check kind image) + total rest) ≡ s.bits + bits_of (check kind image) + total rest = omega arith in
    ap (λ (os : List (Outcome Summary)). lines_from (s.images + 1) os ++ total_line (s.bits + total os)) (next s kind bytes image (999 - s.images) e m refl)
    ∙ append_assoc (line (s.images + 1) (check kind image)) (lines_from (suc (s.images + 1)) rest) (total_line (s.bits + (bits_of (check kind image) + total rest)))
    ∙ ap₂ (λ (p b : ℕ). line (s.images + 1) (check kind image) ++ (lines_from p rest ++ total_line b)) (sym (add-one (s.images + 1))) sum

-- ---- the separate checks

total-append : (xs ys : List (Outcome Summary)) → total (xs ++ ys) ≡ total xs + total ys
total-append [] ys = sym (zero-add (total ys))
total-append (o ∷ xs) ys = omega (arith, total-append xs ys)

total-sent : (sent : List Sent) → total (map check_of sent) ≡ sum_of sent
total-sent [] = refl
total-sent (s ∷ sent) = ap (λ (n : ℕ). bits_of (check_of s) + n) (total-sent sent)

-- An image of its kind's size, and the bytes after it.
first-sent : (kind : ℕ) (image behind : List ℕ) (z : Sizes) → image_sizes kind (length image) ≡ Ok z →
    first_of kind (image ++ behind) (sizes_of kind) ≡ record { outcome = check kind image; behind = behind }
unfolding image_sizes
first-sent kind image behind z e =
    let (y, s, t) = good-bind (sizes_of kind) _ z e in
    let n : length image ≡ image_bytes y = eqb-true (length image) (image_bytes y) (not-false _ (passed WrongImage (not (eqb (length image) (image_bytes y))) (Ok y) z t).0) in
    rw (s, le-ltb (length (image ++ behind)) (image_bytes y) (omega (arith, length-append image behind)), take_at image behind (image_bytes y) n, drop_at image behind (image_bytes y) n)

-- The checks of a tray are those of the images in front, and then those of the bytes after them.
checks-sent : (n : ℕ) (sent : List Sent) (behind : List ℕ) → Sized sent → length sent ≤ n →
    checks n (sent_bytes sent ++ behind) ≡ map check_of sent ++ checks (n - length sent) behind
unfolding checks
checks-sent n [] behind z l = rw (sub-zero n)
checks-sent zero (s ∷ sent) behind z l = absurd (omega arith)
checks-sent (suc n) (s ∷ sent) behind (y, e, z) l =
    let k : suc n - suc (length sent) ≡ n - length sent = omega arith in
    rw (append_assoc s.image (sent_bytes sent) behind, first-sent s.kind s.image (sent_bytes sent ++ behind) y e, k)
    (ap (λ (os : List (Outcome Summary)). check_of s ∷ os) (checks-sent n sent behind z (omega arith)))

-- The report of a tray whose checks are these.
report-of : (tray : List ℕ) (os : List (Outcome Summary)) (n : ℕ) → checks 1_000 tray ≡ os → total os ≡ n → report tray ≡ lines_from 1 os ++ total_line n
unfolding report
report-of tray os n e t = rw (e, t)

whole-checks : (sent : List Sent) → Sized sent → length sent ≤ 1_000 → checks 1_000 (sent_bytes sent) ≡ map check_of sent
whole-checks sent z l =
    ap (checks 1_000) (sym (append-nil (sent_bytes sent))) ∙ checks-sent 1_000 sent [] z l
    ∙ ap (λ (os : List (Outcome Summary)). map check_of sent ++ os) (none_left (1_000 - length sent))
    ∙ append-nil (map check_of sent)

pub whole-tray : WholeTray
whole-tray sent z l = report-of (sent_bytes sent) (map check_of sent) (sum_of sent) (whole-checks sent z l) (total-sent sent)

pub full-tray : FullTray
unfolding checks
full-tray sent behind z l =
    let none : 1_000 - length sent ≡ 0 = omega arith in
    let e : checks 1_000 (sent_bytes sent ++ behind) ≡ map check_of sent ++ [] = checks-sent 1_000 sent behind z (omega arith) ∙ rw none in
    report-of (sent_bytes sent ++ behind) (map check_of sent) (sum_of sent) (e ∙ append-nil (map check_of sent)) (total-sent sent) ∙ sym (whole-tray sent z (omega arith))

cut-first : (kind : ℕ) (bytes : List ℕ) → CutShort kind bytes → first_of kind bytes (sizes_of kind) ≡ cut
cut-first kind bytes short = go (sizes_of kind) refl
  where
    go : (o : Outcome Sizes) → sizes_of kind ≡ o → first_of kind bytes o ≡ cut
    go (Err r) e = refl
    go (Ok z) e = rw (lt-ltb (length bytes) (image_bytes z) (short z e))

pub cut-tray : CutTray
unfolding checks
cut-tray sent kind bytes z l short =
    let more : 1_000 - length sent ≡ suc (999 - length sent) = omega arith in
    let e : checks 1_000 (sent_bytes sent ++ (kind ∷ bytes)) ≡ map check_of sent ++ (Err WrongImage ∷ []) =
    checks-sent 1_000 sent (kind ∷ bytes) z (omega arith) ∙ rw (more, cut-first kind bytes short, none_left (999 - length sent)) in
    let t : total (map check_of sent ++ (Err WrongImage ∷ [])) ≡ sum_of sent = omega (arith, total-append (map check_of sent) (Err WrongImage ∷ []), total-sent sent) in
    report-of (sent_bytes sent ++ (kind ∷ bytes)) (map check_of sent ++ (Err WrongImage ∷ [])) (sum_of sent) e t

pub printed-example : PrintedExample
unfolding digits_up_to
printed-example a b s page z e n f = whole-tray (a ∷ b ∷ []) z (omega arith) ∙ rw (e, f, n)
