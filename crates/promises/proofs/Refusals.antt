-- Laws of the rows of each call.
use Rattle.promises.proofs.Names.{Bool, not, ◌||◌, ◌&&◌, List, [], ◌∷◌, map, ℕ, zero, suc, ◌+◌, ◌*◌, ◌-◌, ◌/◌, arith, eqb, ltb, leb, ℤ, pos, nat_abs, binary32, of_bits, to_bits, length, le_z, Refusal, Outcome, Ok}
use Rattle.promises.proofs.Names.{Err, ◌>>=◌, ◌>>◌, refuse◌if◌, WrongImage, WrongSum, WrongBlock, OutsideTable, NotFinite, NoSuch, WrongSort, OutOfRange, ChangedAlone, NoSpan, OutsideSpan, BlankChip}
use Rattle.promises.proofs.Names.{ShortIndex, OtherCode, LevelTooLow, EndOutside, TooManyPoints, WrongTicks, By, stream_rows, check_order, read_order, text_order, change_order, commit_order, index_order, fetch_order}
use Rattle.promises.proofs.Names.{reading_order, compare_order, Among, by-among, by-bind, by-then, by-test, by_last, by_cond, Sizes, sizes_of, image_bytes, image_sizes, stream_bits, stream_number, is_good, page_test}
use Rattle.promises.proofs.Names.{blank_from, sums_from, sums, field_at, Value, Whole, Single, Missing, Level, Row, Rule, Plain, Stepped, Geometric, Ieee, all_ones, top_code, stepped_value, stepped_code, geometric_value}
use Rattle.promises.proofs.Names.{progression, stored_at, finite, meaning, decode, outside, whole_code, single_code, encode, line_of, last_field, may_write, texted, text_of, whose_text, code_of, parse, Found, Contents}
use Rattle.promises.proofs.Names.{sheet_of, stream_in, contents, field, numbered, points, segments, terms, first_selector, parse-other, sheet-others, check, indexed, read_field, read_pair, read_character, read_segment}
use Rattle.promises.proofs.Names.{read_term, entries, entry_bytes, index, template_at, entry_at, of_length, row_of_length, choices, bits_at, fetch_in, fetch, changeable, code_for, rewritten, change, propose, may_stand}
use Rattle.promises.proofs.Names.{may_commit, commit, Dash, is_resistance, too_many, is_missing, is_outside, refuse_first, least, greatest, span_of, too_far, take_reading, unlike, compare, ReadsByOrder}
use Rattle.texts.specs.Text.{same}

-- ---- the check

sizes-by : (kind bytes : ℕ) → By (1 ∷ []) (image_sizes kind bytes)
unfolding image_sizes
sizes-by kind bytes =
    by-bind (1 ∷ []) (sizes_of kind) _ (kinds kind) (λ z. by-test (1 ∷ []) WrongImage (not (eqb bytes (image_bytes z))) (Ok z) (omega arith) tt)
  where
    kinds : (kind : ℕ) → By (1 ∷ []) (sizes_of kind)
    kinds zero = tt
    kinds (suc zero) = tt
    kinds (suc (suc zero)) = tt
    kinds (suc (suc (suc k))) = omega arith

pub image-by : (rows : List ℕ) (kind bytes : ℕ) → Among (1 ∷ []) rows → By rows (image_sizes kind bytes)
image-by rows kind bytes h = by-among (1 ∷ []) rows (image_sizes kind bytes) h (sizes-by kind bytes)

sums_by : (rows : List ℕ) (z : Sizes) (image : List ℕ) → Among (17 ∷ 2 ∷ []) rows → By rows (sums z image)
unfolding sums_from
sums_by rows z image h = by-test rows BlankChip (blank_from z image z.pages 0) (sums_from z image z.pages 0) h.0 (pages z.pages 0)
  where
    pages : (n i : ℕ) → By rows (sums_from z image n i)
    pages zero i = tt
    pages (suc n) i = by-test rows (WrongSum i) (not (is_good (page_test z image i))) _ h.1.0 (pages n (suc i))

pub contents-by : (kind : ℕ) (image : List ℕ) → By check_order (contents kind image)
unfolding contents
contents-by kind image =
    by-bind check_order (image_sizes kind (length image)) _ (image-by check_order kind (length image) (omega arith)) (λ z.
    by-then check_order (sums z image) _ (sums_by check_order z image (omega arith))
    (by-bind check_order (parse (stream_in z image) sheet_of 0) _
    (by-among (2 ∷ stream_rows) check_order (parse (stream_in z image) sheet_of 0) (omega arith) (parse-other (stream_in z image) sheet_of 0 sheet-others)) (λ x. tt)))

-- After the check, the rows that a call's order adds.
module _ (rows : List ℕ) (all : Among check_order rows) where
  pub checked-by : {B : Type 0} (kind : ℕ) (image : List ℕ) (next : Contents → Outcome B) → ((c : Contents) → By rows (next c)) → By rows (contents kind image >>= next)
  checked-by kind image next h = by-bind rows (contents kind image) next (by-among check_order rows (contents kind image) all (contents-by kind image)) h

-- ---- fields

pub decode-by : (row : Row) (at code : ℕ) → By (5 ∷ 6 ∷ []) (decode row at code)
unfolding decode
decode-by row at code = by_cond rows (row.missing && eqb code (all_ones row.width)) _ _ tt (go row.rule)
  where
    rows : List ℕ
    rows = 5 ∷ 6 ∷ []

    go : (rule : Rule) → By rows (meaning rule row.width at code)
    go (Plain least greatest) = by-test rows (OutsideTable at) (ltb code least || ltb greatest code) _ (omega arith) tt
    go (Stepped start step) = by-test rows (OutsideTable at) (ltb (top_code row.width) code) _ (omega arith) tt
    go (Geometric scale) = by-test rows (OutsideTable at) (ltb (top_code row.width) code) _ (omega arith) tt
    go Ieee =
        by-test rows (OutsideTable at) (eqb code (all_ones row.width)) _ (omega arith)
        (by-test rows (NotFinite at) (not (finite (of_bits binary32 code))) _ (omega arith) tt)

pub encode-by : (row : Row) (place : ℕ) (v : Value) → By (9 ∷ 10 ∷ []) (encode row place v)
unfolding encode
encode-by row place (Whole z) = go row.rule
  where
    rows : List ℕ
    rows = 9 ∷ 10 ∷ []

    go : (rule : Rule) → By rows (whole_code rule row.width place z)
    go (Plain low high) = by-test rows (OutOfRange place) (outside (pos low) (pos high) z) (Ok (nat_abs z)) (omega arith) tt
    go (Stepped start step) =
        by-test rows (OutOfRange place) (outside start (stepped_value start step (top_code row.width)) z) (Ok (stepped_code start step z)) (omega arith) tt
    go (Geometric scale) =
        let value = geometric_value (progression scale) in
        by-test rows (OutOfRange place) (outside (pos (value 0)) (pos (value (top_code row.width))) z) (Ok (stored_at value (top_code row.width) (nat_abs z))) (omega arith) tt
    go Ieee = omega arith
encode-by row place (Single x) = go row.rule
  where
    rows : List ℕ
    rows = 9 ∷ 10 ∷ []

    go : (rule : Rule) → By rows (single_code rule place x)
    go (Plain low high) = omega arith
    go (Stepped start step) = omega arith
    go (Geometric scale) = omega arith
    go Ieee = by-test rows (OutOfRange place) (not (finite x)) (Ok (to_bits binary32 x)) (omega arith) tt
encode-by row place Missing = by-test (9 ∷ 10 ∷ []) (WrongSort place) (not row.missing) _ (omega arith) tt

-- ---- text

texted-by : (f : ℕ) → By text_order (texted f)
texted-by f = by_cond text_order (eqb f 3) _ _ tt (by_cond text_order (eqb f 18) _ _ tt (by_cond text_order (eqb f 19) _ _ tt (omega arith)))

coded_by : (row : Row) (f : ℕ) (v : Value) → By text_order (encode row f v)
coded_by row f v = by-among (9 ∷ 10 ∷ []) text_order (encode row f v) (omega arith) (encode-by row f v)

pub text-by : (f code : ℕ) → By text_order (text_of f code)
unfolding text_of
text-by f code = by-bind text_order (texted f) _ (texted-by f) (λ t. by-bind text_order (encode t.row f _) _ (coded_by t.row f _) (λ held. tt))

whose-by : (text_of : ℕ → List ℕ) (text : List ℕ) (none : Outcome ℕ) (n : ℕ) → By text_order none → By text_order (whose_text text_of text none n)
unfolding whose_text
whose-by text_of text none zero h = by_cond text_order (same (text_of 0) text) _ _ tt h
whose-by text_of text none (suc n) h = by_cond text_order (same (text_of (suc n)) text) _ _ tt (whose-by text_of text none n h)

pub code_by : (f : ℕ) (text : List ℕ) → By text_order (code_of f text)
unfolding code_of
code_by f text =
    by-bind text_order (texted f) _ (texted-by f) (λ t.
    by-test text_order (WrongSort f) (not (eqb (length text) t.length)) _ (omega arith)
    (by-bind text_order (whose_text t.text_of text (Err (OutOfRange f)) (all_ones t.row.width)) _
    (whose-by t.text_of text (Err (OutOfRange f)) (all_ones t.row.width) (omega arith)) (λ code. coded_by t.row f _)))

-- ---- reads

indexed-by : {A : Type 0} (items : List A) (none : A) (i : ℕ) → By read_order (indexed items none i)
indexed-by items none i = by-test read_order (NoSuch i) (leb (length items) i) _ (omega arith) tt

number_by : (rows : List ℕ) (c : Contents) (f : ℕ) → Among (8 ∷ []) rows → By rows (numbered c f)
number_by rows c f h = by-test rows (NoSuch f) (eqb f 0 || ltb (length c.fields) f) _ h.0 tt

row_by : (given : List ℕ) (i : ℕ) (rows : List Row) → By fetch_order (of_length (entry_at given i) rows)
row_by given i [] = omega arith
row_by given i (row ∷ rows) = by_cond fetch_order (eqb row.width (entry_at given i).length) _ _ tt (row_by given i rows)

fetch-by : (kind : ℕ) (image given : List ℕ) (f : ℕ) → By fetch_order (fetch kind image given f)
unfolding fetch fetch_in bits_at
fetch-by kind image given f =
    by-bind fetch_order (image_sizes kind (length image)) _ (image-by fetch_order kind (length image) (omega arith)) (λ z.
    by-then fetch_order (sums z image) _ (sums_by fetch_order z image (omega arith))
    (let template = template_at (stream_number z image) in
    let e = entry_at given (f - 1) in
    by-test fetch_order (NoSuch f) (eqb f 0 || ltb (last_field template) f) _ (omega arith)
    (by-test fetch_order (ShortIndex (4 * last_field template)) (ltb (length given) (4 * last_field template)) _ (omega arith)
    (by-bind fetch_order (row_of_length (line_of template f) e) _ (row_by given (f - 1) (map (line_of template f).row_at choices)) (λ row.
    by-test fetch_order (OutsideTable e.offset) (ltb (stream_bits z) (e.offset + e.length)) _ (omega arith)
    (by-among (5 ∷ 6 ∷ []) fetch_order (decode row e.offset (field_at (stream_number z image) e.offset e.length)) (omega arith) (decode-by row _ _)))))))

-- ---- a reading

first_by : (rows : List ℕ) (row : ℕ → Refusal) (test : Value → Bool) (c : Contents) (fs : List ℕ) → ((f : ℕ) → By {A = ℕ} rows (Err (row f))) → By rows (refuse_first row test c fs)
first_by rows row test c [] h = tt
first_by rows row test c (f ∷ fs) h = by-test rows (row f) (test (field c f).value) (refuse_first row test c fs) (h f) (first_by rows row test c fs h)

span-by : (c : Contents) → By reading_order (span_of c)
unfolding span_of
span-by c =
    by-then reading_order (refuse_first NoSpan is_missing c (7 ∷ 8 ∷ 10 ∷ 11 ∷ [])) _ (first_by reading_order NoSpan is_missing c (7 ∷ 8 ∷ 10 ∷ 11 ∷ []) (λ f. omega arith))
    (by-then reading_order (refuse_first EndOutside is_outside c (10 ∷ 11 ∷ [])) _ (first_by reading_order EndOutside is_outside c (10 ∷ 11 ∷ []) (λ f. omega arith))
    (by-test reading_order (NoSpan 11) (le_z (greatest c) (least c)) _ (omega arith) tt))

reading-by : (kind : ℕ) (image : List ℕ) (v : ℤ) (dash : Dash) → By reading_order (take_reading kind image v dash)
unfolding take_reading
reading-by kind image v dash =
    checked-by reading_order (omega arith) kind image _ (λ c.
    by-test reading_order (WrongBlock first_selector) (is_resistance c.template) _ (omega arith)
    (by-test reading_order (TooManyPoints (length (points c))) (too_many dash (length (points c))) _ (omega arith)
    (by-bind reading_order (span_of c) _ (span-by c) (λ s. by-test reading_order OutsideSpan (too_far v s.least s.greatest) _ (omega arith) tt))))

pub reads-by-order : (kind : ℕ) (image : List ℕ) → ReadsByOrder kind image
unfolding check read_field read_pair read_character read_segment read_term index compare
reads-by-order kind image = record {
  checks = checked-by check_order (omega arith) kind image _ (λ c. tt);
  fields = λ f. checked-by read_order (omega arith) kind image _ (λ c. by-bind read_order (numbered c f) _ (number_by read_order c f (omega arith)) (λ x. tt));
  pairs = λ i. checked-by read_order (omega arith) kind image _ (λ c. indexed-by (points c) _ i);
  characters = λ i. checked-by read_order (omega arith) kind image _ (λ c. indexed-by c.text 0 i);
  segments = λ i. checked-by read_order (omega arith) kind image _ (λ c. indexed-by (segments c) _ i);
  terms = λ i. checked-by read_order (omega arith) kind image _ (λ c. indexed-by (terms c) _ i);
  indexes = λ buffer. checked-by index_order (omega arith) kind image _ (λ c.
      let bytes = entry_bytes (entries c) in by-test index_order (ShortIndex (length bytes)) (ltb (length buffer) (length bytes)) _ (omega arith) tt);
  fetches = fetch-by kind image;
  readings = reading-by kind image;
  compares = λ slow fast. checked-by compare_order (omega arith) kind image _ (λ c. by-test compare_order (WrongTicks (length fast / 2)) (unlike (length slow) (length fast)) _ (omega arith) tt);
}

-- ---- changes and commits

pub rewritten-by : (rows : List ℕ) (kind : ℕ) (image : List ℕ) (x : Found) (code : ℕ) → Among (1 ∷ []) rows → By rows (rewritten kind image x code)
unfolding rewritten
rewritten-by rows kind image x code h = by-bind rows (image_sizes kind (length image)) _ (image-by rows kind (length image) h) (λ z. tt)

changeable-by : (rows : List ℕ) (c : Contents) (level : Level) (f : ℕ) → Among (8 ∷ 12 ∷ 20 ∷ []) rows → By rows (changeable c level f)
unfolding changeable
changeable-by rows c level f h =
    by-bind rows (numbered c f) _ (number_by rows c f (h.0, tt)) (λ x.
    by-test rows (ChangedAlone f) (line_of c.template f).sets _ h.1.0
    (by-test rows (LevelTooLow f) (not (may_write level (line_of c.template f).mark)) _ h.1.1.0 tt))

code-for-by : (c : Contents) (level : Level) (f : ℕ) (v : Value) → By change_order (code_for c level f v)
unfolding code_for
code-for-by c level f v =
    by-bind change_order (changeable c level f) _ (changeable-by change_order c level f (omega arith)) (λ x.
    by-among (9 ∷ 10 ∷ []) change_order (encode x.row f v) (omega arith) (encode-by x.row f v))

pub change-by : (kind : ℕ) (image : List ℕ) (level : Level) (f : ℕ) (v : Value) → By change_order (change kind image level f v)
unfolding change
change-by kind image level f v =
    checked-by change_order (omega arith) kind image _ (λ c.
    by-bind change_order (code_for c level f v) _ (code-for-by c level f v) (λ code. rewritten-by change_order kind image (field c f) code (omega arith)))

pub propose-by : (kind : ℕ) (image : List ℕ) (level : Level) (f : ℕ) (v : Value) → By change_order (propose kind image level f v)
unfolding propose
propose-by kind image level f v =
    checked-by change_order (omega arith) kind image _ (λ c.
    by-bind change_order (code_for c level f v) _ (code-for-by c level f v) (λ code.
    by-bind change_order (decode (field c f).row (field c f).at code) _ (by-among (5 ∷ 6 ∷ []) change_order (decode (field c f).row (field c f).at code) (omega arith) (decode-by (field c f).row (field c f).at code)) (λ back. tt)))

pub commit-by : (kind : ℕ) (image : List ℕ) (level : Level) (f present new : ℕ) → By commit_order (commit kind image level f present new)
unfolding commit may_commit
commit-by kind image level f present new =
    checked-by commit_order (omega arith) kind image _ (λ c.
    by-then commit_order (may_commit c level f present new) (rewritten kind image (field c f) new)
    (by-bind commit_order (changeable c level f) (λ x. refuse OtherCode f if not (eqb x.code present) >> refuse OutOfRange f if not (may_stand x.row new))
    (changeable-by commit_order c level f (omega arith)) (λ x.
    by-test commit_order (OtherCode f) (not (eqb x.code present)) (refuse OutOfRange f if not (may_stand x.row new)) (omega arith)
    (by_last commit_order (OutOfRange f) (not (may_stand x.row new)) (omega arith))))
    (rewritten-by commit_order kind image (field c f) new (omega arith)))
