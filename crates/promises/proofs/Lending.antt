-- Proof that a sheet of a parameter's type is `Lendable`.
use Rattle.promises.proofs.Names.{subst, List, [], ◌∷◌, Val, shadow, each, tells, Value, Real, the_laws, lent-real, Slot, Sheet, AllReal, Lendable}
use denote.Laws.{Is}
use denote.Enum.Declared as enum
use denote.Struct.Declared as struct
use Rattle.codes.specs.contracts.Value as value
use Rattle.build.specs.contracts.Slot as slot
use Rattle.build.specs.contracts.Sheet as sheet

-- A value, whatever machine values represent it.
value-real : (v : Value) (vs : List Val) → Is (enum.row value.the_type) v vs → Real v
value-real v vs h = lent-real v (subst (Is (enum.row value.the_type) v) (tells value.the_type the_laws v vs h) h)

slots-real : (slots : List Slot) (us : List Val) → shadow (each (slot.the_row).Denot (slot.the_row).own_val slots us) → AllReal slots
slots-real [] us h = tt
slots-real (s ∷ slots) [] h = absurd h
slots-real (s ∷ slots) (u ∷ us) h = (value-real s.value h.0.0.0 h.0.1.1.0, slots-real slots us h.1)

pub sheet-lendable : (s : Sheet) (vs : List Val) → Is (struct.row sheet.the_type) s vs → Lendable s
sheet-lendable s vs h = record { fields = h.1.1.1.0.1.0.1; singles = slots-real s.fields h.1.1.1.0.0 h.1.1.1.0.1.1 }
