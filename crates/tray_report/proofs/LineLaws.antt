-- Laws of a line, piece by piece.
use Rattle.tray_report.proofs.Names.{◌≡◌, refl, sym, ap, ap₂, ◌∙◌, List, [], ◌++◌, append_assoc, ℕ, zero, suc, ◌+◌, ◌-◌, ◌≤◌, sub-zero, arith, drop_put, mid_len, post_of, put_mid, same_len_mid, length, take, drop, replicate}
use Rattle.tray_report.proofs.Names.{length-append, length-replicate, take-append-drop, take_at, drop-drop, length-take-le, Line, bytes_in, Reads, TextOfLine, Put, Room}
use Rattle.tray_report.proofs.Names.{Longer}

-- A text put over as many bytes after a buffer's first bytes.
pub put_as : (before text new : List ℕ) (at end : ℕ) → end ≤ length before → end ≡ at + length text → new ≡ text → Put before at text (put_mid at (end - at) before new) end
put_as before text new at end l w e =
    let long : length text ≡ end - at = omega arith in
    let front : length (take at before ++ text) ≡ end = length-append (take at before) text ∙ ap (λ (j : ℕ). j + length text) (length-take-le at before (omega arith)) ∙ sym w in
    let is : put_mid at (end - at) before new ≡ (take at before ++ text) ++ post_of at (end - at) before = rw e (sym (append_assoc (take at before) text (post_of at (end - at) before))) in
    record {
      long = same_len_mid at (end - at) before new (ap length e ∙ long ∙ sym (mid_len at end before l));
      ends = w;
      is = rw is (take_at (take at before ++ text) (post_of at (end - at) before) end front);
      rest = drop_put at end before new (omega arith) l (ap length e ∙ long);
    }

zeros-less : (n m : ℕ) → drop n (replicate {A = ℕ} m 0) ≡ replicate (m - n) 0
zeros-less zero m = ap (λ (k : ℕ). replicate k 0) (sym (sub-zero m))
zeros-less (suc n) zero = let e : 0 - suc n ≡ 0 = omega arith in rw e
zeros-less (suc n) (suc m) = let e : m - n ≡ suc m - suc n = omega arith in zeros-less n m ∙ ap (λ (k : ℕ). replicate k 0) e

pub put-longer : (l : Line) (text after : List ℕ) (end : ℕ) → Room l (length text) → Put l.bytes l.length text after end →
    Longer l text (record { bytes = after; length = end })
put-longer l text after end h p =
    let less : 43 - l.length - length text ≡ 43 - end = omega (arith, p.ends) in
    record {
      room = p.long ∙ h.room;
      short = omega (arith, p.ends, h.fits);
      long = p.ends;
      is = p.is;
      zeros = p.rest ∙ rw p.ends (sym (drop-drop (length text) l.length l.bytes) ∙ ap (drop (length text)) h.zeros ∙ zeros-less (length text) (43 - l.length) ∙ ap (λ (n : ℕ). replicate n 0) (less ∙ ap (λ (n : ℕ). 43 - n) p.ends));
    }

pub longer-more : {l m n : Line} {xs ys : List ℕ} → Longer l xs m → Longer m ys n → Longer l (xs ++ ys) n
longer-more {l} {m} {n} {xs} {ys} a b =
    record {
      room = b.room;
      short = b.short;
      long = omega (arith, a.long, b.long, length-append xs ys);
      is = b.is ∙ ap (λ (zs : List ℕ). zs ++ ys) a.is ∙ append_assoc (bytes_in l) xs ys;
      zeros = b.zeros;
    }

pub longer-reads : (l : Line) {m : Line} {xs : List ℕ} → Reads l [] → Longer l xs m → Reads m xs
longer-reads l {m} {xs} r a =
    let none : l.length ≡ 0 = ap (λ (k : Line). k.length) r.is in
    let long : m.length ≡ length xs = omega (arith, a.long) in
    let text : bytes_in m ≡ xs = a.is ∙ ap (λ (k : Line). bytes_in k ++ xs) r.is in
    let bytes : m.bytes ≡ xs ++ replicate (43 - length xs) 0 =
    sym (take-append-drop m.length m.bytes) ∙ ap₂ (λ (zs ys : List ℕ). zs ++ ys) text (a.zeros ∙ ap (λ (n : ℕ). replicate (43 - n) 0) long) in
    record { fits = omega (arith, a.short); is = ap₂ (λ (bs : List ℕ) (n : ℕ). record { bytes = bs; length = n }) bytes long }

-- A position, and the end of its line.
pub line_reads : (l : Line) {m n : Line} (xs ys zs : List ℕ) → Reads l [] → Longer l xs m → Longer m (ys ++ zs) n → Reads n (xs ++ ys ++ zs)
line_reads l xs ys zs r a b = rw (append_assoc xs ys zs) (longer-reads l r (longer-more a b))

pub text-of-line : TextOfLine
text-of-line l text r = ap bytes_in r.is ∙ take_at text (replicate (43 - length text) 0) (length text) refl

-- Every line fills its array.
pub line-long : {l : Line} {text : List ℕ} → Reads l text → length l.bytes ≡ 43
line-long {l} {text} r =
    ap (λ (k : Line). length k.bytes) r.is
    ∙ omega (arith, length-append text (replicate (43 - length text) 0), length-replicate {A = ℕ} (43 - length text) 0, r.fits)
