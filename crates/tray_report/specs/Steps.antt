-- Document 02, Note 12: a tray read and reported step by step.
use Rattle.std.specs.Prelude.{◌≡◌, Bool, true, false, cond, List, [], ◌∷◌, ◌++◌, ℕ, zero, suc, ◌+◌, ◌-◌, ◌*◌, ◌≤◌, ◌<◌, length, take, drop}
use Rattle.memory.specs.Image.{sizes_of}
use Rattle.sheet.specs.Check.{check}
use Rattle.tray_report.specs.declared.SoFar.{SoFar}
use Rattle.tray_report.specs.declared.Next.{Next}
use Rattle.tray_report.specs.declared.Next.TheVariants.{Kind, Image, Total, Nothing}
use Rattle.tray_report.specs.declared.State.{State}
use Rattle.tray_report.specs.declared.Stepped.{Stepped}
use Rattle.tray_report.specs.Tray.{most_images, line, total_line, report}
use Rattle.tray_report.specs.Images.{bytes_of, begun, with, Reads, Sound}

abbrev pub state_of : SoFar → Next → State
state_of tray next = record { tray = tray; next = next }

abbrev pub initial : State
initial = state_of begun Kind

abbrev pub has_next : Next → Bool
has_next Kind = true
has_next (Image kind) = true
has_next Total = true
has_next Nothing = false

-- The bytes that a step reads: "for each image one byte with its kind, then its bytes".
abbrev pub bytes_wanted : Next → ℕ
bytes_wanted Kind = 1
bytes_wanted (Image kind) = bytes_of (sizes_of kind)
bytes_wanted Total = 0
bytes_wanted Nothing = 0

-- The line that a step writes, for the bytes that it received.
abbrev pub step_line : Next → SoFar → List ℕ → List ℕ
step_line Kind s received = []
step_line (Image kind) s received = line (s.images + 1) (check kind received)
step_line Total s received = total_line s.bits
step_line Nothing s received = []

-- The state after a step. The input has ended if no kind is received.
abbrev pub next_state : Next → SoFar → List ℕ → State
next_state Kind s [] = state_of s Total
next_state Kind s (kind ∷ received) = state_of s (Image kind)
next_state (Image kind) s received = let t = with s kind received in state_of t (cond t.more Kind Total)
next_state Total s received = state_of s Nothing
next_state Nothing s received = state_of s Nothing

-- ---- what holds of a step

-- Bytes are read only from a tray that has not ended.
abbrev pub Open : Next → SoFar → Type 0
Open Kind s = s.more ≡ true
Open (Image kind) s = s.more ≡ true
Open Total s = Unit {0}
Open Nothing s = Unit {0}

-- What holds of every state that steps from `initial` lead to.
pub record SoundState (st : State) : Type 0 where
  pub sound : Sound st.tray
  pub ongoing : Open st.next st.tray

pub record StepsTo (st : State) (received : List ℕ) (t : Stepped) : Type 0 where
  pub line : Reads t.line (step_line st.next st.tray received)
  pub state : t.state ≡ next_state st.next st.tray received
  pub sound : SoundState t.state

-- A step on the first bytes of a buffer, as many as were received, at most what it wants.
pub record SteppedOn (st : State) (buffer : List ℕ) (t : Stepped) : Type 0 where
  pub received : ℕ
  pub few : received ≤ bytes_wanted st.next
  pub steps : StepsTo st (take received buffer) t

-- ---- a run: any number of steps from the first, each with any bytes up to what it wants

-- The state, the bytes received so far, and the lines written so far.
pub data Run : State → List ℕ → List ℕ → Type 0 where
  begins : Run initial [] []
  steps : {st : State} {input output : List ℕ} → Run st input output → (received : List ℕ) → length received ≤ bytes_wanted st.next →
      Run (next_state st.next st.tray received) (input ++ received) (output ++ step_line st.next st.tray received)

-- Once no step is left, the lines are the report on the bytes received.
abbrev pub RunTells : Type 0
RunTells = (st : State) (input output : List ℕ) → Run st input output → has_next st.next ≡ false → output ≡ report input

-- The run that led to a state; and one that has no step left.
pub record Ran (st : State) : Type 0 where
  pub input : List ℕ
  pub output : List ℕ
  pub run : Run st input output

pub record Reported (st : State) : Type 0 where
  pub ran : Ran st
  pub is : ran.output ≡ report ran.input

-- ---- the run on an input

-- The most steps that are left.
abbrev pub steps_left : Next → SoFar → ℕ
steps_left Kind s = 2 * (most_images - s.images) + 2
steps_left (Image kind) s = 2 * (most_images - s.images) + 1
steps_left Total s = 1
steps_left Nothing s = 0

-- What n steps write if each read gets as many bytes of an input as it wants, or all that are left.
unfoldable pub written : ℕ → State → List ℕ → List ℕ
written zero st input = []
written (suc n) st input =
    let received = take (bytes_wanted st.next) input in
    step_line st.next st.tray received ++ written n (next_state st.next st.tray received) (drop (length received) input)

-- Once no step is left, this is the report on the input.
abbrev pub WrittenInTurn : Type 0
WrittenInTurn = (n : ℕ) (input : List ℕ) → steps_left Kind begun ≤ n → written n initial input ≡ report input

-- After each step fewer are left.
abbrev pub FewerStepsLeft : Type 0
FewerStepsLeft =
    (st : State) (received : List ℕ) → SoundState st → has_next st.next ≡ true →
    let to = next_state st.next st.tray received in steps_left to.next to.tray < steps_left st.next st.tray
