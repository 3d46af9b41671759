-- Laws of a build in a buffer: its tests in order, and the bits.
use Rattle.build.proofs.Names.{◌≡◌, refl, sym, ap, ◌∙◌, Bool, true, false, ◌||◌, List, [], ◌++◌, append_assoc, ℕ, ◌+◌, ◌-◌, ◌*◌, ◌%◌, ◌≤◌, ◌<◌, arith, lt-ltb, le-ltb, ltb-false, eqb, ltb, ℤ, Float, length, take, length-append, length-take-le, bool_byte}
use Rattle.build.proofs.Names.{Refusal, Outcome, Ok, Err, ◌>>=◌, ◌>>◌, TooLong, WrongList, neither, bind-refused, good-bind, good-same, no_value_lem, not-refused, then-good, then-refused, refuse◌if◌, Sizes, image_bytes, image_sizes, stream_bits, image_of, Piece, pack, needed, needed-append}
use Rattle.build.proofs.Names.{Domain, Template, Level, basic, basic-five, span-listed, last-most, last_field, ending, end_code, text-needed, Options, Sheet, CodedField, Listed, template_in, field_pieces, ending_tested, ending_pieces, Table, listed, list_tested}
use Rattle.build.proofs.Names.{behind_pieces, plan, as_far_as_64_bits, built_in, build_with, Fit, unpacked, first_codes, coded_list, coded_sheet, BitString, bit_string, BlockPlanned, both_listed, fitted, finished, sheet_lent, FieldsPlanned, FrontPlanned, SheetPlanned}
use Rattle.build.proofs.Coding.{packed-long}
use Rattle.build.proofs.Listing.{fit-front, fit-both, list-front, list-more, string-between, fitted-same}
use Rattle.build.proofs.EndingPlans.{ending-characters, character-lt}

-- ---- the bits

module _ (template : Template) (codes : List CodedField) (count : ℕ) (end_bit : Bool) (text : List ℕ) where
  abbrev pieces : List Piece
  pieces = coded_sheet template codes count end_bit text

  sheet-needed : needed pieces ≡ needed (coded_list template codes count) + 3 + 7 * length text
  sheet-needed = omega (arith, needed-append (coded_list template codes count) (ending_pieces end_bit text), text-needed text)

  -- The codes are inside the stream if the whole sheet is.
  pub front-inside : {most : ℕ} → needed pieces ≤ most → needed (coded_list template codes count) ≤ most
  front-inside h = omega (arith, h, sheet-needed)

  module _ (z : Sizes) (small : image_bytes z ≤ 512) (bits : ℕ) (named-bits : bits ≡ as_far_as_64_bits (needed (coded_list template codes count) + 3 + 7 * length text)) where
    named : bits ≡ as_far_as_64_bits (needed pieces)
    named = omega (arith, named-bits, sheet-needed)

    pub too_many : stream_bits z < bits → fitted z pieces ≡ Err (TooLong bits)
    unfolding fitted
    too_many h = rw (lt-ltb (stream_bits z) (needed pieces) (omega (arith, named))) (ap (λ (n : ℕ). Err (TooLong n)) (sym named))

    pub inside : bits ≤ stream_bits z → needed pieces ≤ stream_bits z
    inside h = omega (arith, named)

    pub fits : bits ≤ stream_bits z → fitted z pieces ≡ Ok (image_of z (pack pieces))
    unfolding fitted
    fits h = rw (le-ltb (stream_bits z) (needed pieces) (inside h))

-- ---- the tests

-- The test of row 16.
abbrev wrong_length : List ℤ → Bool
wrong_length points = eqb (length points % 2) 1 || ltb 254 (length points)

module _ (domain : Domain) (points : List ℤ) where
  pub list-wrong : wrong_length points ≡ true → list_tested (listed domain points) ≡ Err (WrongList (length points))
  list-wrong e = rw e

  pub list_right : wrong_length points ≡ false → list_tested (listed domain points) ≡ Ok tt
  list_right e = rw e

few-points : (points : List ℤ) → wrong_length points ≡ false → length points ≤ 254
few-points points e = ltb-false 254 (length points) (neither (eqb (length points % 2) 1) (ltb 254 (length points)) e).1

-- A list that passed the test is not long.
pub list-few : (domain : Domain) (points : List ℤ) → list_tested (listed domain points) ≡ Ok tt → length points ≤ 254
list-few domain points e = few-points points (not-refused (WrongList (length points)) (wrong_length points) e)

-- The tests of a build with a table or a curve.
module _ (z : Sizes) (sheet : Sheet) (text : List ℕ) (table : Table) where
  pub built-list : {r : Refusal} → list_tested table ≡ Err r → built_in z sheet text table ≡ Err r
  unfolding built_in plan
  built-list e = rw e

  abbrev ends : Outcome (Unit {0})
  ends = ending_tested (ending (template_in sheet)) sheet.end_bit text

  module _ (right : list_tested table ≡ Ok tt) where
    built-front : {r : Refusal} → (field_pieces sheet >> ends) ≡ Err r → built_in z sheet text table ≡ Err r
    unfolding built_in plan
    built-front {r} e = rw right (ap (λ (o : Outcome (List Piece)). o >>= λ pieces. (refuse TooLong (as_far_as_64_bits (needed pieces)) if ltb (stream_bits z) (needed pieces)) >> Ok (image_of z (pack pieces))) (go (field_pieces sheet) ends (λ fs. behind_pieces table >>= λ behind. Ok (fs ++ (behind ++ ending_pieces sheet.end_bit text))) e))
      where
        go : {A B : Type 0} (F : Outcome A) (E : Outcome (Unit {0})) (k : A → Outcome B) → (F >> E) ≡ Err r → (F >>= λ fs. E >> k fs) ≡ Err r
        go (Ok fs) (Ok t) k f = no_value_lem (sym f)
        go (Ok fs) (Err s) k f = let same : s ≡ r = cc in ap Err same
        go (Err s) E k f = let same : s ≡ r = cc in ap Err same

    module _ {fs : List Piece} (fields : field_pieces sheet ≡ Ok fs) (end : ends ≡ Ok tt) where
      built-behind : {r : Refusal} → behind_pieces table ≡ Err r → built_in z sheet text table ≡ Err r
      unfolding built_in plan
      built-behind e = rw (right, fields, end, e)

      built-fitted : {behind : List Piece} → behind_pieces table ≡ Ok behind → built_in z sheet text table ≡ fitted z (fs ++ (behind ++ ending_pieces sheet.end_bit text))
      unfolding built_in plan fitted
      built-fitted e = rw (right, fields, end, e)

module _ (kind : ℕ) (buffer : List ℕ) (sheet : Sheet) (text : List ℕ) (table : Table) where
  pub build-refused : {r : Refusal} → image_sizes kind (length buffer) ≡ Err r → build_with kind buffer sheet text table ≡ Err r
  unfolding build_with
  build-refused e = bind-refused _ e

  pub build-sized : {z : Sizes} → image_sizes kind (length buffer) ≡ Ok z → build_with kind buffer sheet text table ≡ built_in z sheet text table
  unfolding build_with
  build-sized e = rw e

-- ---- the fields and the ending

module _ (sheet : Sheet) (text fields : List ℕ) {p : Outcome Listed} (f : FieldsPlanned sheet (unpacked fields) p) {n : ℕ} (rest : List ℕ) (room : 21 ≤ n) (others : Fit (n - 21) (unpacked rest)) where
  abbrev own : Template
  own = template_in sheet

  abbrev tests : Outcome (Unit {0})
  tests = ending_tested (ending own) sheet.end_bit text

  -- The list is the fields' and what is after them.
  all_fit : Fit n (unpacked (fields ++ rest))
  all_fit = let e : 21 + (n - 21) ≡ n = omega arith in rw e at (fit-both fields rest f.fit others)

  front-stop : {r : Refusal} → (field_pieces sheet >> tests) ≡ Err r → FrontPlanned sheet text n (unpacked (fields ++ rest)) (Err r)
  front-stop {r} e = record {
    stop = λ x a. let same : r ≡ x = cc in e ∙ ap Err same;
    fields = λ l a. absurd (let z : ◌≡◌ {A = ℕ} 0 1 = cc in omega arith);
    end = λ l a. absurd (let z : ◌≡◌ {A = ℕ} 0 1 = cc in omega arith);
    count = λ l a. absurd (let z : ◌≡◌ {A = ℕ} 0 1 = cc in omega arith);
    fit = all_fit;
  }

  pub fields-down : {r : Refusal} → p ≡ Err r → FrontPlanned sheet text n (unpacked (fields ++ rest)) (Err r)
  fields-down e = front-stop (then-refused tests (sym f.said ∙ ap (λ q. q >> Ok (coded_list own (unpacked fields) (last_field own))) e))

  module _ {l : Listed} (e : p ≡ Ok l) where
    fields-are : field_pieces sheet ≡ Ok (coded_list own (unpacked fields) (last_field own))
    fields-are = sym f.said ∙ ap (λ q. q >> Ok (coded_list own (unpacked fields) (last_field own))) e

    pub ending-down : {r : Refusal} → tests ≡ Err r → FrontPlanned sheet text n (unpacked (fields ++ rest)) (Err r)
    ending-down d = front-stop (then-good tests fields-are ∙ d)

    pub front-good : tests ≡ Ok tt → FrontPlanned sheet text n (unpacked (fields ++ rest)) (Ok l)
    front-good d =
        let c = f.count l e in
        let basics : length basic < l.count = omega (arith, c.0, basic-five, span-listed own {f = 11} (omega arith)) in
        let most : l.count ≤ 21 = omega (arith, c.0, last-most own) in
        let same : coded_list own (unpacked (fields ++ rest)) l.count ≡ coded_list own (unpacked fields) (last_field own) =
        list-front own fields rest l.count (omega (arith, packed-long fields f.fit)) (omega arith) ∙ ap (coded_list own (unpacked fields)) c.0 in
        record {
          stop = λ x a. absurd (let z : ◌≡◌ {A = ℕ} 0 1 = cc in omega arith);
          fields = λ m a. let is : l ≡ m = cc in rw (← is) (fields-are ∙ ap Ok (sym same));
          end = λ m a. d;
          count = λ m a. let is : l ≡ m = cc in rw (← is) (basics, most, c.1 ∙ ap needed (sym same), c.2);
          fit = all_fit;
        }

-- ---- a sheet

module _ (options : Options) (tags : List ℕ) (wholes : List ℤ) (singles : List Float) (text : List ℕ) (table : Table) (right : list_tested table ≡ Ok tt) where
  abbrev sheet_at : Level → Sheet
  sheet_at level = sheet_lent options.template options.end_bit level tags wholes singles

  abbrev Whole : List ℕ → Outcome Listed → Type 0
  Whole = SheetPlanned options tags wholes singles text table

  sheet-stop : {codes : List ℕ} {r : Refusal} → ((level : Level) (z : Sizes) → built_in z (sheet_at level) text table ≡ Err r) → Whole codes (Err r)
  sheet-stop e = record { said = λ level z. sym (e level z); ready = λ l a. absurd (let z : ◌≡◌ {A = ℕ} 0 1 = cc in omega arith) }

  module _ (codes : List ℕ) {long : ℕ} {front : Outcome Listed} (f : (level : Level) → FrontPlanned (sheet_at level) text long (unpacked codes) front) where
    pub sheet-front : {later : List ℕ} {r : Refusal} → front ≡ Err r → Whole later (Err r)
    sheet-front e = sheet-stop (λ level z. built-front z (sheet_at level) text table right ((f level).stop _ e))

    -- A sheet without a block.
    pub sheet-plain : behind_pieces table ≡ Ok [] → Level → 21 ≤ long → Whole codes front
    sheet-plain none level₀ room = record {
      said = λ level z. go level z front refl;
      ready = λ l e.
          let c = (f level₀).count l e in
          let whole : length codes ≡ long = packed-long codes (f level₀).fit in
          record {
            fit = rw whole (f level₀).fit;
            some = c.0;
            most = omega (arith, whole, c.1);
            count = c.2;
            small = omega (arith, c.3);
            characters = character-lt text (ending-characters (ending options.template) options.end_bit text ((f level₀).end l e));
          };
    }
      where
        go : (level : Level) (z : Sizes) (p : Outcome Listed) → front ≡ p → finished z options.template options.end_bit text (unpacked codes) p ≡ built_in z (sheet_at level) text table
        go level z (Err r) e = sym (built-front z (sheet_at level) text table right ((f level).stop r e))
        go level z (Ok l) e = sym (built-fitted z (sheet_at level) text table right ((f level).fields l e) ((f level).end l e) none)

    module _ {l : Listed} (e : front ≡ Ok l) {n : ℕ} (block : List ℕ) {behind : Outcome Listed} (b : BlockPlanned (behind_pieces table) n (unpacked block) behind) where
      pub sheet-behind : {later : List ℕ} {r : Refusal} → behind ≡ Err r → Whole later (Err r)
      sheet-behind {r = r} d =
          let down : behind_pieces table ≡ Err r = string-down (behind_pieces table) (sym b.said ∙ ap (λ q. q >>= λ m. Ok (bit_string (first_codes (unpacked block) m.count))) d) in
          sheet-stop (λ level z. built-behind z (sheet_at level) text table right ((f level).fields l e) ((f level).end l e) down)
        where
          string-down : (o : Outcome (List Piece)) → (o >>= λ ps. Ok (bit_string ps)) ≡ Err r → o ≡ Err r
          string-down (Ok ps) k = no_value_lem (sym k)
          string-down (Err s) k = let same : s ≡ r = cc in ap Err same

      module _ {m : Listed} (d : behind ≡ Ok m) (level₀ : Level) (room : 21 ≤ long) where
        abbrev t : Template
        t = options.template

        abbrev at : ℕ
        at = l.count

        abbrev all : List ℕ
        all = take at codes ++ block

        more : coded_list t (unpacked all) (at + m.count) ≡ coded_list t (unpacked codes) at ++ first_codes (unpacked block) m.count
        more =
            let c = (f level₀).count l e in
            list-more t codes block at m.count (omega (arith, c.1, packed-long codes (f level₀).fit)) (omega (arith, c.0))

        -- The block's pieces, and that its codes are the same bit string.
        strung : (ps : List Piece) × (behind_pieces table ≡ Ok ps) × (◌≡◌ {A = Outcome BitString} (Ok (bit_string ps)) (Ok (bit_string (first_codes (unpacked block) m.count))))
        strung = good-bind (behind_pieces table) _ _ (sym b.said ∙ ap (λ q. q >>= λ k. Ok (bit_string (first_codes (unpacked block) k.count))) d)

        sheet-said : (level : Level) (z : Sizes) → fitted z (coded_sheet t (unpacked all) (at + m.count) options.end_bit text) ≡ built_in z (sheet_at level) text table
        sheet-said level z =
            let (ps, are, same) = strung in
            let fs : List Piece = coded_list t (unpacked codes) at in
            let qs : List Piece = first_codes (unpacked block) m.count in
            let end : List Piece = ending_pieces options.end_bit text in
            ap (λ x. fitted z (x ++ end)) more
            ∙ ap (fitted z) (append_assoc fs qs end)
            ∙ fitted-same z (fs ++ (qs ++ end)) (fs ++ (ps ++ end)) (string-between fs qs ps end (sym (good-same same)))
            ∙ sym (built-fitted z (sheet_at level) text table right ((f level).fields l e) ((f level).end l e) are)

        pub sheet-done : Whole all (Ok (both_listed l m))
        sheet-done =
            let c = (f level₀).count l e in
            let k = b.count m d in
            let fs : List Piece = coded_list t (unpacked codes) at in
            let qs : List Piece = first_codes (unpacked block) m.count in
            let whole : length all ≡ at + n = omega (arith, length-append (take at codes) block, length-take-le at codes (omega (arith, c.1, packed-long codes (f level₀).fit)), packed-long block b.fit) in
            let fit : Fit (at + n) (unpacked all) = fit-both (take at codes) block (fit-front codes at (f level₀).fit (omega (arith, c.1))) b.fit in
            record {
              said = sheet-said;
              ready = λ x a. let is : both_listed l m ≡ x = cc in rw (← is) (record {
                fit = rw whole fit;
                some = omega (arith, c.0);
                most = omega (arith, whole, k.0);
                count = omega (arith, ap needed more, needed-append fs qs, c.2, k.1);
                small = omega (arith, c.3, k.2);
                characters = character-lt text (ending-characters (ending t) options.end_bit text ((f level₀).end l e));
              });
            }

-- ---- the end bit

pub end-byte : (b : Bool) → bool_byte b ≡ end_code b
end-byte true = refl
end-byte false = refl

pub end_lt : (b : Bool) → end_code b < 2
end_lt true = omega arith
end_lt false = omega arith
