-- Laws of writing pieces in order.
use Rattle.build.proofs.Names.{◌≡◌, refl, sym, ap, ap₂, ◌∙◌, List, [], ◌∷◌, ◌++◌, ℕ, zero, suc, ◌+◌, ◌*◌, ◌%◌, ◌^◌, ◌≤◌, ◌<◌, add_comm, mul_assoc, zero-mul, arith, digits_lt, length, get_or, replicate}
use Rattle.build.proofs.Names.{length-replicate, bit_or, or_shifted_r, pow-add, shl_exact, Sizes, Cursor, number, image_bytes, stream_bits, stream_of, stream_number, put_in, stream_index, InStream, Piece, piece, pack}
use Rattle.build.proofs.Names.{needed, pack-lt, pack-append, needed-append, stream_at, stream-length, put_whole, put-bytes, put-stream, Free, Room, Filled, Begun, put-free}
use Rattle.memory.specs.Answers.{WholeImage}
use Rattle.memory.proofs.PieceLaws.{Fit}

-- ---- numbers

-- A code above the first k bits of another.
pub or-behind : {a b : ℕ} (j k : ℕ) → a < 2 ^ j → j + k ≤ 64 → b < 2 ^ k → bit_or b (a * 2 ^ k % 2 ^ 64) ≡ b + a * 2 ^ k
or-behind {a} {b} j k ha h hb = ap (bit_or b) (shl_exact j k 64 ha h) ∙ or_shifted_r a k b hb ∙ add_comm (a * 2 ^ k) b

-- Digits Q above digits P above a number.
behind : (P Q N at w : ℕ) → Q * 2 ^ (at + w) + (P * 2 ^ at + N) ≡ (Q * 2 ^ w + P) * 2 ^ at + N
behind P Q N at w =
    let W : ℕ = 2 ^ w in
    let A : ℕ = 2 ^ at in
    let e : Q * 2 ^ (at + w) ≡ Q * W * A =
    ap (λ (n : ℕ). Q * 2 ^ n) (add_comm at w) ∙ ap (λ (x : ℕ). Q * x) (pow-add 2 w at) ∙ sym (mul_assoc Q W A) in
    omega arith

module _ (z : Sizes) where
  -- ---- one code

  fills : {a b : List ℕ} {k n : Cursor} {w code : ℕ} → Room z a k (piece w code ∷ []) → code < 2 ^ w → b ≡ put_in z a k.at w code → n.at ≡ k.at + w →
      Filled z a k (piece w code ∷ []) b n
  fills {a} {b} {k} {n} {w} {code} r h put moved =
      let f = r.free in
      let at : ℕ = k.at in
      let e : stream_number z b ≡ code * 2 ^ at + stream_number z a =
      ap (stream_number z) put ∙ put-stream z a at w code f.whole.long f.bytes (omega (arith, r.inside)) h ∙ put-free (stream_number z a) at w code f.below in
      let size : 2 ^ w * 2 ^ at ≡ 2 ^ n.at = sym (pow-add 2 w at) ∙ ap (λ (n : ℕ). 2 ^ n) (add_comm w at ∙ sym moved) in
      record {
        free = record {
          whole = record { long = ap length put ∙ put_whole z a at w code f.whole.long; small = f.whole.small; paged = f.whole.paged; few = f.whole.few };
          bytes = rw put (put-bytes z a at w code f.whole.long f.bytes);
          below = rw (e, ← size) (digits_lt h f.below);
        };
        stream = e ∙ ap (λ (x : ℕ). x * 2 ^ at + stream_number z a) (omega (arith, zero-mul (2 ^ w)));
        moved = omega (arith, moved);
      }

  -- ---- part of the way

  -- Of the pieces to be written from a cursor on, those left go at the cursor `next`.
  pub record Filling (before : List ℕ) (cursor : Cursor) (pieces : List Piece) (image : List ℕ) (next : Cursor) (left : List Piece) : Type 0 where
    pub room : Room z image next left
    pub stream : pack left * 2 ^ next.at + stream_number z image ≡ pack pieces * 2 ^ cursor.at + stream_number z before
    pub moved : next.at + needed left ≡ cursor.at + needed pieces

  pub filling-none : {a : List ℕ} {k : Cursor} {ps : List Piece} → Room z a k ps → Filling a k ps a k ps
  filling-none r = record { room = r; stream = refl; moved = refl }

  module _ {a b : List ℕ} {k m : Cursor} {all : List Piece} where
    -- Room for the first of the pieces left, and the state after them.
    module _ {left : List Piece} (ps qs : List Piece) (e : left ≡ ps ++ qs) (f : Filling a k all b m left) where
      pub room-first : Room z b m ps
      room-first = record { free = f.room.free; inside = omega (arith, ap needed e, needed-append ps qs, f.room.inside) }

      pub filling-more : {c : List ℕ} {n : Cursor} → Filled z b m ps c n → Filling a k all c n qs
      filling-more {c} {n} l = record {
        room = record { free = l.free; inside = omega (arith, ap needed e, needed-append ps qs, f.room.inside, l.moved) };
        stream =
            ap₂ (λ (i x : ℕ). pack qs * 2 ^ i + x) l.moved l.stream ∙ behind (pack ps) (pack qs) (stream_number z b) m.at (needed ps)
            ∙ ap (λ (x : ℕ). x * 2 ^ m.at + stream_number z b) (sym (ap pack e ∙ pack-append ps qs)) ∙ f.stream;
        moved = omega (arith, ap needed e, needed-append ps qs, f.moved, l.moved);
      }

    -- Room for one code, which is put at the cursor, and the state after it.
    module _ {left : List Piece} (w code : ℕ) (qs : List Piece) (e : left ≡ piece w code ∷ qs) (f : Filling a k all b m left) where
      code_inside : 1 ≤ w → w ≤ 49 → InStream z b m.at w
      code_inside some most = record {
        whole = f.room.free.whole;
        inside = omega (arith, (room-first (piece w code ∷ []) qs e f).inside);
        some = some;
        most = most;
      }

      code-more : {c : List ℕ} {n : Cursor} → code < 2 ^ w → (c ≡ put_in z b m.at w code) × (n.at ≡ m.at + w) → Filling a k all c n qs
      code-more fits put = filling-more (piece w code ∷ []) qs e f (fills (room-first (piece w code ∷ []) qs e f) fits put.0 put.1)

    -- Room for several pieces, which are put as one code, and the state after them.
    module _ {left : List Piece} (ps qs : List Piece) (e : left ≡ ps ++ qs) (f : Filling a k all b m left) where
      joined : {code : ℕ} → code ≡ pack ps → Filling a k all b m (piece (needed ps) code ∷ qs)
      joined {code} h =
          let digits : pack qs * 2 ^ needed ps + code ≡ pack left = ap (λ (x : ℕ). pack qs * 2 ^ needed ps + x) h ∙ sym (ap pack e ∙ pack-append ps qs) in
          let bits : needed qs + needed ps ≡ needed left = sym (ap needed e ∙ needed-append ps qs) in
          record {
            room = record { free = f.room.free; inside = omega (arith, bits, f.room.inside) };
            stream = ap (λ (x : ℕ). x * 2 ^ m.at + stream_number z b) digits ∙ f.stream;
            moved = omega (arith, bits, f.moved);
          }

      pub joined-inside : 1 ≤ needed ps → needed ps ≤ 49 → InStream z b m.at (needed ps)
      joined-inside = code_inside (needed ps) (pack ps) qs refl (joined refl)

      pub joined-more : {c : List ℕ} {n : Cursor} {code : ℕ} → Fit ps → (c ≡ put_in z b m.at (needed ps) code) × (n.at ≡ m.at + needed ps) → code ≡ pack ps →
          Filling a k all c n qs
      joined-more {code = code} fits put h = code-more (needed ps) code qs refl (joined h) (rw h (pack-lt ps fits)) put

    pub filled : Filling a k all b m [] → Filled z a k all b m
    filled f = record { free = f.room.free; stream = omega (arith, f.stream, zero-mul (2 ^ m.at)); moved = omega (arith, f.moved) }

  -- ---- collected pieces

  -- The first of the pieces left are collected in one
  -- code, which is put once the next does not fit.
  pub record Gathering (before : List ℕ) (cursor : Cursor) (pieces : List Piece) (image : List ℕ) (next : Cursor) (w code : ℕ) (left : List Piece) : Type 0 where
    pub filling : Filling before cursor pieces image next (piece w code ∷ left)
    pub fits : code < 2 ^ w
    pub most : w ≤ 49

  module _ {a b : List ℕ} {k m : Cursor} {all left : List Piece} {w code : ℕ} (g : Gathering a k all b m w code left) where
    pub gathering-ready : 1 ≤ w → (InStream z b m.at w × (code < 2 ^ w)) × (stream_number z b < 2 ^ m.at)
    gathering-ready some = ((code_inside w code left refl g.filling some g.most, g.fits), g.filling.room.free.below)

    pub gathering-put : {c : List ℕ} {n : Cursor} → (c ≡ put_in z b m.at w code) × (n.at ≡ m.at + w) → Filling a k all c n left
    gathering-put = code-more w code left refl g.filling g.fits

    -- The next piece.
    module _ {v more : ℕ} {qs : List Piece} (e : left ≡ piece v more ∷ qs) (fits : more < 2 ^ v) where
      gathered-lt : code + more * 2 ^ w < 2 ^ (w + v)
      gathered-lt =
          let size : 2 ^ v * 2 ^ w ≡ 2 ^ (w + v) = sym (pow-add 2 v w) ∙ ap (λ (n : ℕ). 2 ^ n) (add_comm v w) in
          let both : more * 2 ^ w + code < 2 ^ v * 2 ^ w = digits_lt fits g.fits in
          omega arith

      pub gather : w + v ≤ 49 → Gathering a k all b m (w + v) (bit_or code (more * 2 ^ w % 2 ^ 64)) qs
      gather few =
          let behind : bit_or code (more * 2 ^ w % 2 ^ 64) ≡ code + more * 2 ^ w = or-behind v w fits (omega arith) g.fits in
          let both : List Piece = piece w code ∷ piece v more ∷ [] in
          let width : needed both ≡ w + v = omega arith in
          let is : bit_or code (more * 2 ^ w % 2 ^ 64) ≡ pack both = omega (arith, zero-mul (2 ^ v)) in
          record {
            filling = rw width at (joined both qs (ap (λ l. piece w code ∷ l) e) g.filling is);
            fits = rw behind gathered-lt;
            most = few;
          }

      pub gather-next : v ≤ 49 → {c : List ℕ} {n : Cursor} → (c ≡ put_in z b m.at w code) × (n.at ≡ m.at + w) → Gathering a k all c n v more qs
      gather-next most put = record { filling = rw e at (gathering-put put); fits = fits; most = most }

-- ---- a cleared image

zeros-number : (l : List ℕ) → ((i : ℕ) → i < length l → get_or l i 0 ≡ 0) → number l ≡ 0
zeros-number [] h = refl
zeros-number (b ∷ l) h = omega (arith, zeros-number l (λ i k. h (suc i) (omega arith)), h 0 (omega arith))

zeros-at : (n i : ℕ) → ◌≡◌ {A = ℕ} (get_or (replicate n 0) i 0) 0
zeros-at zero i = refl
zeros-at (suc n) zero = refl
zeros-at (suc n) (suc i) = zeros-at n i

cleared-free : (z : Sizes) (image : List ℕ) → WholeImage z image → Free z (replicate (length image) 0) 0
cleared-free z image w =
    let n : ℕ = length image in
    let cleared : List ℕ = replicate n 0 in
    let whole : length cleared ≡ image_bytes z = length-replicate n 0 ∙ w.long in
    let none : stream_number z cleared ≡ 0 =
    zeros-number (stream_of z cleared) (λ i h. stream_at z cleared whole i (omega (arith, stream-length z cleared whole, h)) ∙ zeros-at n (stream_index z i)) in
    record { whole = record { long = whole; small = w.small; paged = w.paged; few = w.few }; bytes = (λ i. omega (arith, zeros-at n i)); below = omega (arith, none) }

module _ (z : Sizes) {image a : List ℕ} (whole : WholeImage z image) (e : a ≡ replicate (length image) 0) where
  pub cleared : Free z a 0
  cleared = rw e (cleared-free z image whole)

  pub cleared-room : {k : Cursor} (ps : List Piece) → k.at ≡ 0 → needed ps ≤ stream_bits z → Room z a k ps
  cleared-room ps at h = record { free = rw at cleared; inside = omega (arith, at) }

-- What is written from the first bit on is the whole stream.
pub begun : {z : Sizes} {a b : List ℕ} {k n : Cursor} {ps : List Piece} → Filled z a k ps b n → k.at ≡ 0 → Free z a 0 → Begun z ps b n
begun {z} {a} {ps = ps} l e f =
    let none : stream_number z a ≡ 0 = omega (arith, f.below) in
    record {
      free = l.free;
      stream = l.stream ∙ ap₂ (λ (i x : ℕ). pack ps * 2 ^ i + x) e none ∙ omega arith;
      moved = omega (arith, l.moved, e);
    }

-- What is written after the first pieces.
module _ {z : Sizes} {a : List ℕ} {k : Cursor} {ps : List Piece} (b : Begun z ps a k) (qs : List Piece) where
  pub begun-room : needed (ps ++ qs) ≤ stream_bits z → Room z a k qs
  begun-room h = record { free = b.free; inside = omega (arith, b.moved, needed-append ps qs) }

  pub begun_all : pack qs * 2 ^ k.at + stream_number z a ≡ pack (ps ++ qs)
  begun_all = ap₂ (λ (i x : ℕ). pack qs * 2 ^ i + x) b.moved b.stream ∙ sym (pack-append ps qs)
