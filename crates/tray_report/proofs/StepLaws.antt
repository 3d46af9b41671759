-- Laws of a tray step by step.
use Rattle.tray_report.proofs.Names.{◌≡◌, refl, sym, ap, ◌∙◌, Bool, true, false, cond, false≢true, List, [], ◌∷◌, ◌++◌, append_assoc, append-nil, ℕ, zero, suc, ◌+◌, ◌-◌, ◌*◌, ◌≤◌, ◌<◌, arith, eqb-true, ltb, eqb}
use Rattle.tray_report.proofs.Names.{length, take, drop, length-take, length-take-le, take_all, take_at, drop_at, Outcome, Ok, Err, WrongImage, both, Sizes, sizes_of, image_bytes, image_sizes, sizes-kind}
use Rattle.tray_report.proofs.Names.{check, Line, SoFar, ImageReport, Next, Kind, Image, Total, Nothing, State, Stepped, line, total_line, report, bytes_of, is_whole, begun, with, report_from, Reads, Sound, JudgedAs}
use Rattle.tray_report.proofs.Names.{state_of, initial, has_next, bytes_wanted, step_line, next_state, Open, SoundState, StepsTo, SteppedOn, steps_left, Run, begins, steps, Ran, Reported, RunTells, written}
use Rattle.tray_report.proofs.Names.{WrittenInTurn, FewerStepsLeft}
use Rattle.tray_report.proofs.JudgeLaws.{begun-sound, with-sound}
use Rattle.tray_report.proofs.TrayLaws.{told-from-the-start, told-in-turn, told-at-the-end}

pub initial-sound : SoundState initial
initial-sound = record { sound = begun-sound; ongoing = refl }

-- ---- the state after a step

after-image : (t : SoFar) → Sound t → (m : Bool) → t.more ≡ m → SoundState (state_of t (cond m Kind Total))
after-image t h true e = record { sound = h; ongoing = e }
after-image t h false e = record { sound = h; ongoing = tt }

pub next-sound : (next : Next) (s : SoFar) (received : List ℕ) → SoundState (state_of s next) → SoundState (next_state next s received)
next-sound Kind s [] h = record { sound = h.sound; ongoing = tt }
next-sound Kind s (kind ∷ received) h = record { sound = h.sound; ongoing = h.ongoing }
next-sound (Image kind) s received h = after-image (with s kind received) (with-sound s kind received h.sound h.ongoing) (with s kind received).more refl
next-sound Total s received h = record { sound = h.sound; ongoing = tt }
next-sound Nothing s received h = record { sound = h.sound; ongoing = tt }

-- A step by its line and the state after it.
pub steps-to : (next : Next) (s : SoFar) (received : List ℕ) (l : Line) (to : State) → SoundState (state_of s next) → Reads l (step_line next s received) → to ≡ next_state next s received →
    StepsTo (state_of s next) received (record { line = l; state = to })
steps-to next s received l to h r e = record { line = r; state = e; sound = rw e (next-sound next s received h) }

pub image-judged : (s : SoFar) (kind : ℕ) (received : List ℕ) (j : ImageReport) (more : Bool) → Sound s → s.more ≡ true → JudgedAs s kind received j → j.tray.more ≡ more →
    StepsTo (state_of s (Image kind)) received (record { line = j.line; state = state_of j.tray (cond more Kind Total) })
image-judged s kind received j more h m e o =
    steps-to (Image kind) s received j.line _ (record { sound = h; ongoing = m }) e.line (rw (← o, e.tray))

-- A step, by its sort.
module _ (s : SoFar) {next n : Next} (e : next ≡ n) where
  pub ongoing-as : Open next s → Open n s
  ongoing-as h = rw e at h

  pub step-as : (buffer : List ℕ) (count : ℕ) {received : List ℕ} {t : Stepped} → received ≡ take count buffer → StepsTo (state_of s n) received t → StepsTo (state_of s next) (take count buffer) t
  step-as buffer count i h = rw (e, ← i) h

pub total-step : (s : SoFar) {next : Next} (received : List ℕ) (l : Line) → next ≡ Total → Sound s → Reads l (total_line s.bits) →
    StepsTo (state_of s next) received (record { line = l; state = state_of s Nothing })
total-step s received l e h r = rw e (steps-to Total s received l _ (record { sound = h; ongoing = tt }) r refl)

pub nothing-step : (s : SoFar) {next : Next} (received : List ℕ) (l : Line) → next ≡ Nothing → Sound s → Reads l [] → StepsTo (state_of s next) received (record { line = l; state = state_of s Nothing })
nothing-step s received l e h r = rw e (steps-to Nothing s received l _ (record { sound = h; ongoing = tt }) r refl)

-- The buffer has room for every read.
pub wanted-fit : (next : Next) → bytes_wanted next ≤ 512
wanted-fit Kind = omega arith
wanted-fit (Image zero) = omega arith
wanted-fit (Image (suc zero)) = omega arith
wanted-fit (Image (suc (suc zero))) = omega arith
wanted-fit (Image (suc (suc (suc kind)))) = omega arith
wanted-fit Total = omega arith
wanted-fit Nothing = omega arith

pub buffer-part : (next : Next) (buffer part : List ℕ) (n : ℕ) → 512 ≤ length buffer → n ≡ bytes_wanted next → part ≡ take n buffer →
    (part ≡ take (bytes_wanted next) buffer) × (length part ≡ bytes_wanted next)
buffer-part next buffer part n l w e =
    let f : part ≡ take (bytes_wanted next) buffer = rw w at e in
    (f, ap length f ∙ length-take-le (bytes_wanted next) buffer (omega (arith, wanted-fit next)))

-- ---- the number of steps left

fewer-image : (s : SoFar) (t : SoFar) (m : Bool) → t.images ≡ s.images + 1 → s.images < 1_000 →
    steps_left (cond m Kind Total) t < 2 * (1_000 - s.images) + 1
fewer-image s t true e l = omega arith
fewer-image s t false e l = omega arith

pub fewer-steps-left : FewerStepsLeft
fewer-steps-left st received h g = go st.next st.tray h.ongoing h.sound g
  where
    go : (next : Next) (s : SoFar) → Open next s → Sound s → has_next next ≡ true → let to = next_state next s received in steps_left to.next to.tray < steps_left next s
    go Kind s m h g = kinds received
      where
        kinds : (received : List ℕ) → let to = next_state Kind s received in steps_left to.next to.tray < steps_left Kind s
        kinds [] = omega arith
        kinds (kind ∷ received) = omega arith
    go (Image kind) s m h g = fewer-image s (with s kind received) (with s kind received).more refl (h.last m)
    go Total s m h g = omega arith
    go Nothing s m h g = absurd (false≢true g)

pub stepped-fewer : {st : State} {buffer : List ℕ} {t : Stepped} → SoundState st → has_next st.next ≡ true → SteppedOn st buffer t →
    steps_left t.state.next t.state.tray < steps_left st.next st.tray
stepped-fewer {st} {buffer} h g u = rw u.steps.state (fewer-steps-left st (take u.received buffer) h g)

-- ---- all steps together

-- What is still to be written.
abbrev to_report : Next → SoFar → List ℕ → List ℕ
to_report Kind s input = report_from s input
to_report (Image kind) s input = report_from s (kind ∷ input)
to_report Total s input = total_line s.bits
to_report Nothing s input = []

report-next : (t : SoFar) (input : List ℕ) (m : Bool) → t.more ≡ m → to_report (cond m Kind Total) t input ≡ report_from t input
report-next t input true e = refl
report-next t input false e = sym ((told-at-the-end t input).0 e)

one-step : (next : Next) (s : SoFar) (input : List ℕ) → SoundState (state_of s next) →
    let received = take (bytes_wanted next) input in let to = next_state next s received in
    to_report next s input ≡ step_line next s received ++ to_report to.next to.tray (drop (length received) input)
one-step Kind s [] h = (told-at-the-end s []).1
one-step Kind s (kind ∷ input) h = refl
one-step (Image kind) s input h =
    let received = take (bytes_of (sizes_of kind)) input in
    told-in-turn s kind input h.sound h.ongoing
    ∙ ap (λ (xs : List ℕ). line (s.images + 1) (check kind received) ++ xs) (sym (report-next (with s kind received) (drop (length received) input) (with s kind received).more refl))
one-step Total s input h = sym (append-nil (total_line s.bits))
one-step Nothing s input h = refl

all-written : (n : ℕ) (next : Next) (s : SoFar) (input : List ℕ) → SoundState (state_of s next) → steps_left next s ≤ n → written n (state_of s next) input ≡ to_report next s input
unfolding written
all-written zero next s input h l = none next l
  where
    none : (next : Next) → steps_left next s ≤ 0 → [] ≡ to_report next s input
    none Kind l = absurd (omega arith)
    none (Image kind) l = absurd (omega arith)
    none Total l = absurd (omega arith)
    none Nothing l = refl
all-written (suc n) next s input h l =
    let received = take (bytes_wanted next) input in
    let to = next_state next s received in
    ap (λ (xs : List ℕ). step_line next s received ++ xs) (all-written n to.next to.tray (drop (length received) input) (next-sound next s received h) (fits next refl))
    ∙ sym (one-step next s input h)
  where
    fits : (o : Next) → next ≡ o → let to = next_state next s (take (bytes_wanted next) input) in steps_left to.next to.tray ≤ n
    fits Kind e = omega (arith, fewer-steps-left (state_of s next) (take (bytes_wanted next) input) h (ap has_next e))
    fits (Image kind) e = omega (arith, fewer-steps-left (state_of s next) (take (bytes_wanted next) input) h (ap has_next e))
    fits Total e = omega (arith, fewer-steps-left (state_of s next) (take (bytes_wanted next) input) h (ap has_next e))
    fits Nothing e = rw e (omega arith)

pub written-in-turn : WrittenInTurn
written-in-turn n input l = all-written n Kind begun input initial-sound l ∙ told-from-the-start input

-- ---- a run

pub run_sound : {st : State} {input output : List ℕ} → Run st input output → SoundState st
run_sound begins = initial-sound
run_sound (steps {st} r received l) = next-sound st.next st.tray received (run_sound r)

pub ran-initial : {st : State} → st ≡ initial → Ran st
ran-initial e = rw e (record { input = []; output = []; run = begins })

pub ran_on : {st : State} {buffer : List ℕ} {t : Stepped} → Ran st → SteppedOn st buffer t → Ran t.state
ran_on {st} {buffer} r u =
    rw u.steps.state
    (record { input = _; output = _; run = steps r.run (take u.received buffer) (omega (arith, length-take u.received buffer, u.few)) })

-- The report on the bytes received and on any that follow,
-- while more are read; on those alone when none are.
abbrev ReportedSo : Next → SoFar → List ℕ → List ℕ → Type 0
ReportedSo Kind s input output = (rest : List ℕ) → output ++ report_from s rest ≡ report (input ++ rest)
ReportedSo (Image kind) s input output = (rest : List ℕ) → output ++ report_from s (kind ∷ rest) ≡ report (input ++ rest)
ReportedSo Total s input output = output ++ total_line s.bits ≡ report input
ReportedSo Nothing s input output = output ≡ report input

-- Only a whole image is followed by others.
whole_long : (kind n : ℕ) → is_whole (image_sizes kind n) ≡ true → n ≡ bytes_of (sizes_of kind)
unfolding image_sizes
whole_long kind n h = go (sizes_of kind) refl
  where
    go : (o : Outcome Sizes) → sizes_of kind ≡ o → n ≡ bytes_of o
    go (Err r) e = absurd (false≢true (rw e at h))
    go (Ok z) e = sized (eqb n (image_bytes z)) refl
      where
        sized : (b : Bool) → eqb n (image_bytes z) ≡ b → n ≡ image_bytes z
        sized true f = eqb-true n (image_bytes z) f
        sized false f = absurd (false≢true (sym (ap is_whole (sizes-kind kind n z e ∙ ap (λ (b : Bool). cond b (Ok z) (Err WrongImage)) f)) ∙ h))

more-long : (s : SoFar) (kind : ℕ) (received : List ℕ) → (with s kind received).more ≡ true → length received ≡ bytes_of (sizes_of kind)
more-long s kind received m = whole_long kind (length received) (both (is_whole (image_sizes kind (length received))) (ltb (s.images + 1) 1_000) m).0

-- An image that was received, with the bytes that follow.
image-reported : (s : SoFar) (kind : ℕ) (received rest : List ℕ) → Sound s → s.more ≡ true → take (bytes_of (sizes_of kind)) (received ++ rest) ≡ received →
    report_from s (kind ∷ received ++ rest) ≡ line (s.images + 1) (check kind received) ++ report_from (with s kind received) rest
image-reported s kind received rest h m e =
    told-in-turn s kind (received ++ rest) h m
    ∙ rw (e, drop_at received rest (length received) refl)

step-reported : (next : Next) (s : SoFar) (input output received : List ℕ) → SoundState (state_of s next) → length received ≤ bytes_wanted next → ReportedSo next s input output →
    let to = next_state next s received in ReportedSo to.next to.tray (input ++ received) (output ++ step_line next s received)
step-reported Kind s input output [] h l t =
    rw (append-nil output, append-nil input) (ap (λ (xs : List ℕ). output ++ xs) (sym (told-at-the-end s []).1) ∙ rw (append-nil input) at (t []))
step-reported Kind s input output (kind ∷ []) h l t = λ rest. rw (append-nil output, append_assoc input (kind ∷ []) rest) (t (kind ∷ rest))
step-reported Kind s input output (kind ∷ other ∷ received) h l t = absurd (omega arith)
step-reported (Image kind) s input output received h l t = go (with s kind received).more refl
  where
    told : (rest : List ℕ) → take (bytes_of (sizes_of kind)) (received ++ rest) ≡ received →
        (output ++ line (s.images + 1) (check kind received)) ++ report_from (with s kind received) rest ≡ report ((input ++ received) ++ rest)
    told rest e =
        append_assoc output (line (s.images + 1) (check kind received)) (report_from (with s kind received) rest)
        ∙ ap (λ (xs : List ℕ). output ++ xs) (sym (image-reported s kind received rest h.sound h.ongoing e))
        ∙ t (received ++ rest)
        ∙ ap report (sym (append_assoc input received rest))

    go : (m : Bool) → (with s kind received).more ≡ m → ReportedSo (cond m Kind Total) (with s kind received) (input ++ received) (output ++ line (s.images + 1) (check kind received))
    go true m = λ rest. told rest (take_at received rest (bytes_of (sizes_of kind)) (more-long s kind received m))
    go false m =
        ap (λ (xs : List ℕ). (output ++ line (s.images + 1) (check kind received)) ++ xs) (sym ((told-at-the-end (with s kind received) []).0 m))
        ∙ rw (append-nil (input ++ received)) at (told [] (rw (append-nil received) (take_all (bytes_of (sizes_of kind)) received l)))
step-reported Total s input output [] h l t = rw (append-nil input) t
step-reported Total s input output (b ∷ received) h l t = absurd (omega arith)
step-reported Nothing s input output [] h l t = rw (append-nil output, append-nil input) t
step-reported Nothing s input output (b ∷ received) h l t = absurd (omega arith)

run-reported : {st : State} {input output : List ℕ} → Run st input output → ReportedSo st.next st.tray input output
run-reported begins = λ rest. told-from-the-start rest
run-reported (steps {st} {input} {output} r received l) = step-reported st.next st.tray input output received (run_sound r) l (run-reported r)

pub run-tells : RunTells
run-tells st input output r e = go st.next e (run-reported r)
  where
    go : (next : Next) → has_next next ≡ false → ReportedSo next st.tray input output → output ≡ report input
    go Kind e t = absurd (false≢true (sym e))
    go (Image kind) e t = absurd (false≢true (sym e))
    go Total e t = absurd (false≢true (sym e))
    go Nothing e t = t

pub ran_out : {st : State} → Ran st → has_next st.next ≡ false → Reported st
ran_out {st} r e = record { ran = r; is = run-tells st r.input r.output r.run e }
