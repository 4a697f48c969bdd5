use Rattle.std.proofs.Common.{◌≡◌, Bool, true, false, refl}
use Rattle.std.specs.Bool.{Decides}
use Rattle.std.proofs.lemmas.Slice.Eq.{slice_eq-Decides}
use Rattle.star_values.specs.declared.value.Kind.{Kind}
use Rattle.star_values.specs.declared.value.Kind.TheVariants.{Int, Text}
use Rattle.csv_load.proofs.read_once.are_same.Goals as goal

-- a test that tells the two kinds apart decides whether they are the same
decides-same : (E : Kind → Kind → Bool) → E Int Int ≡ true → E Int Text ≡ false → E Text Int ≡ false → E Text Text ≡ true
    → (kind other : Kind) → Decides (E kind other) (kind ≡ other)
decides-same E ints first second texts Int Int = (λ _. refl, λ _. ints)
decides-same E ints first second texts Int Text = (λ h. cc (first, h), λ h. cc)
decides-same E ints first second texts Text Int = (λ h. cc (second, h), λ h. cc)
decides-same E ints first second texts Text Text = (λ _. refl, λ _. texts)

pub returns : goal.returns
returns c = slice_eq-Decides (decides-same _ refl refl refl refl) c.args.kinds.now c.args.others.now c.eq.result c.eq.ensures
