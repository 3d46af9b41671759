-- Proof that every call refuses by a row that its order names.
use Rattle.promises.proofs.Names.{refl, RefusedByOrder, NeverZero, NeverFifteen}
use Rattle.promises.proofs.Refusals.{reads-by-order, text-by, code_by}
use Rattle.promises.proofs.BuildOrders.{writes-by-order, distance-by}

pub refused-by-order : RefusedByOrder
refused-by-order = record { reads = reads-by-order; writes = writes-by-order; texts = text-by; codes = code_by; distances = distance-by }

pub never-zero : NeverZero
never-zero = (refl, (refl, (refl, (refl, (refl, (refl, (refl, (refl, (refl, (refl, (refl, (refl, tt))))))))))))

pub never-fifteen : NeverFifteen
never-fifteen = (refl, (refl, (refl, (refl, (refl, (refl, (refl, (refl, (refl, (refl, (refl, (refl, tt))))))))))))
