-- The word that a READ shows matters only where 8 bytes are moved.
use Rattle.std.proofs.Common.{◌≡◌, ℕ, ◌%◌, ◌/◌, ◌==◌, ◌&&◌, Bool, true, false, refl, ap}
use Rattle.std.proofs.lemmas.Bool.{eqb-true}
use Rattle.redn_words.specs.declared.types.Request.{Request}
use Rattle.redn_words.specs.declared.types.Origin.{Origin}
use Rattle.redn_words.specs.declared.types.Kind.{Kind}
use Rattle.redn_words.specs.declared.types.Kind.TheVariants.{Vars, Table, Code, Control, Message}
use Rattle.redn_words.specs.declared.types.Obs.{Obs}
use Rattle.redn_words.specs.declared.types.Obs.TheVariants as shows
use Rattle.redn_words.specs.Landings.{read_shows, read_into_vars, read_hidden, when}

shown_aligned : (b : Bool) (w v : ℕ) (f : ℕ → Obs) (o : Origin) (c : Bool) → (b ≡ true → w ≡ v) → when (b && c) (f w) o ≡ when (b && c) (f v) o
shown_aligned true w v f o c h = ap (λ x. when c (f x) o) (h refl)
shown_aligned false w v f o c h = refl

shown_long : (b : Bool) (w v : ℕ) (f : ℕ → Obs) (o : Origin) → (b ≡ true → w ≡ v) → when b (f w) o ≡ when b (f v) o
shown_long true w v f o h = ap (λ x. when true (f x) o) (h refl)
shown_long false w v f o h = refl

module _ (o : Origin) (r : Request) (w v : ℕ) (same : r.length ≡ 8 → w ≡ v) where
  eight : (r.length == 8) ≡ true → w ≡ v
  eight t = same (eqb-true r.length 8 t)

  into_vars : (remote : Kind) → read_into_vars o r w remote ≡ read_into_vars o r v remote
  into_vars Vars = shown_aligned (r.length == 8) w v (λ x. shows.Set o.chain (r.local / 8) x) o (r.local % 8 == 0) eight
  into_vars (Table t) = shown_aligned (r.length == 8) w v (λ x. shows.Load o.chain (r.local / 8) t r.remote x) o (r.local % 8 == 0) eight
  into_vars Code = shown_aligned (r.length == 8) w v (λ x. shows.Set o.chain (r.local / 8) x) o (r.local % 8 == 0) eight
  into_vars Control = shown_aligned (r.length == 8) w v (λ x. shows.Set o.chain (r.local / 8) x) o (r.local % 8 == 0) eight
  into_vars Message = shown_aligned (r.length == 8) w v (λ x. shows.Set o.chain (r.local / 8) x) o (r.local % 8 == 0) eight

  hidden : (remote : Kind) → read_hidden o r w remote ≡ read_hidden o r v remote
  hidden (Table t) = shown_long (r.length == 8) w v (λ x. shows.Look o.chain t r.remote x) o eight
  hidden Vars = refl
  hidden Code = refl
  hidden Control = refl
  hidden Message = refl

  pub read_shows_same : (local remote : Kind) → read_shows o r w local remote ≡ read_shows o r v local remote
  read_shows_same Vars remote = into_vars remote
  read_shows_same Code remote = hidden remote
  read_shows_same Control remote = hidden remote
  read_shows_same (Table t) remote = refl
  read_shows_same Message remote = refl
