-- What the proofs of this crate take from the kit, from the crates below and from its own definitions.
pub use Prim.Native.Nat.{◌%◌, ◌*◌, ◌+◌, ◌-◌, ◌/◌, ◌<◌, ◌^◌, ◌≤◌, suc, zero, ℕ}
pub use mathlib.Core.{List.List, List.◌++◌, List.append-nil, Logic.◌⊎◌, Logic.inl, Logic.inr, Path.◌∙◌, Path.◌≡◌, Path.ap, Path.ap₂, Path.refl, Path.sym}
pub use native.Mathlib.Nat.{add_comm, div-eq_of_lt, div-mul-le_self, le_refl, lt_of_le_of_lt, lt_of_lt_of_le, lt_trans, mod-eq_of_lt, mod-lt, mod-one, mul_assoc, one-mul, zero-mul}
pub use native.Mathlib.{Decide.dec_lt, Decide.ℕ_discrete, Numerals.add-one, Omega.arith}
pub use lib.ListN.{drop, get_or, length, length-drop, length-set, replicate, set, take}
pub use lib.Pow.{high, low, mod-mod-pow, mod-pow-add, ones_lt, ones_split, pow-add, pow_mono, pow_pos, shl_exact, shl_lt, shr_le, shr_lt, shr_mod, shr-shr, split}
pub use lib.{Bits.and_block, Bits.and_high, Bits.and_mask, Bits.bit_and, Bits.bit_or, Bits.mask_lt, Bits.or_block, Bits.or_shifted_r, Bits.or_zero_r, Dec.lit<, Seq.drop-length, Seq.get_or-set_other, Seq.length-take-le}
pub use mir.{Syntax.w64, Val.Fits}
pub use borrow.Author.{Fill.fill_more, Fill.fill_none, Rules.rules, Tests.le-ltb, Tests.lt-ltb}
pub use Rattle.refusal.specs.{Outcome.Ok, Outcome.Err, declared.Refusal.TheVariants.PastEnd}
pub use Rattle.memory.proofs.Digits.{bytes_drop, bytes-length, bytes-number, bytes-set, bytes_take, number_at, number-bytes, number-ext, number_lt, number-part, number-set}
pub use Rattle.memory.proofs.FieldLaws.{field-add, field-field, field_lt, low-lt, put-after, put-before, put-in, put-lt, put-put, put_same}
pub use Rattle.memory.proofs.Sealing.{seal-bytes, seal-length, seal-number, seal-other, seal-others, seal-sum}
pub use Rattle.memory.proofs.Streams.{index-check, index-lt, index-page, index-register, stream_at, stream-bytes, stream-length, stream-set}
pub use Rattle.memory.proofs.{Images.image-is, SumLaws.stream_part, SumLaws.sum_same, Written.Put, Written.put-bytes, Written.put-checks, Written.put_is, Written.put-stream, Written.put_whole}
pub use Rattle.memory.specs.Image.{SumsRight, image_bytes, image_of, page_at, page_of, page_sum, stream_bits, stream_bytes, stream_number, stream_of}
pub use Rattle.memory.specs.{Answers.WholeImage, Answers.stream_index, Bits.Bytes, Bits.bytes_of, Bits.field_at, Bits.number, Bits.put_at, Laid.put_in, Laid.sealed, Laid.with_stream, declared.Sizes.Sizes}
pub use Rattle.stream.specs.Answers.{InStream}
unfoldable pub use Rattle.stream.specs.Answers.{taken_at}
