use Rattle.tray_report.proofs.Names.{◌≡◌, refl, rules, sym, ℕ, zero, suc, sizes_of, bytes_of}
use Rattle.tray_report.proofs.images.image_bytes.Goals as goal

no_kind : (kind : ℕ) → (kind ≡ 0 → ⊥) → (kind ≡ 1 → ⊥) → (kind ≡ 2 → ⊥) → bytes_of (sizes_of kind) ≡ 0
no_kind zero h i j = absurd (h refl)
no_kind (suc zero) h i j = absurd (i refl)
no_kind (suc (suc zero)) h i j = absurd (j refl)
no_kind (suc (suc (suc k))) h i j = refl

pub returns-in_default : goal.returns-in_default
returns-in_default c = sym (no_kind c.args.kind (λ e. search rules) (λ e. search rules) (λ e. search rules))
