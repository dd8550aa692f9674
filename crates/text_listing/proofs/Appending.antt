-- Texts put behind each other.
use mathlib.Core.Path.{◌≡◌, ap, sym, ◌∙◌}
use mathlib.Core.List.{List, [], ◌++◌, append_assoc, append-nil}
use Prim.Native.Nat.{ℕ, ◌+◌}
use lib.ListN.{length, length-append}
use Rattle.text_listing.specs.Appended.{Appended}

-- nothing yet
pub nothing : (t : List ℕ) → Appended t [] t
nothing t = record { joined = sym (append-nil t) }

-- how long a text is with a piece more
pub longer : {t u s : List ℕ} → Appended t s u → length u ≡ length t + length s
longer {t} {s = s} p = ap length p.joined ∙ length-append t s

-- one piece behind another
pub then : {t u v s r : List ℕ} → Appended t s u → Appended u r v → Appended t (s ++ r) v
then {t} {s = s} {r = r} p q = record { joined = q.joined ∙ ap (λ (x : List ℕ). x ++ r) p.joined ∙ append_assoc t s r }

-- the piece told by another name
pub told : {t u s r : List ℕ} → s ≡ r → Appended t s u → Appended t r u
told {t} e p = record { joined = p.joined ∙ ap (λ (x : List ℕ). t ++ x) e }
