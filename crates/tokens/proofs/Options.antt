-- What cannot be, and what an `Option` that came out well was made of.
use Rattle.std.proofs.Common.{◌≡◌, Bool, true, false, cond, Some, None, Option, sym, refl}
use Rattle.std.specs.Option.{option_map}
use Rattle.std.proofs.lemmas.Option.{same_Some}

pub none_some : {A P : Type 0} {x : A} → ◌≡◌ {A = Option A} None (Some x) → P
none_some h = cc

pub mapped_back : {A B : Type 0} (f : A → B) (o : Option A) (y : B) → option_map f o ≡ Some y → (x : A) × (o ≡ Some x) × (y ≡ f x)
mapped_back f None y h = none_some h
mapped_back f (Some x) y h = (x, refl, sym (same_Some _ _ h))

-- a test that was passed
pub cond_some : {A : Type 0} (b : Bool) (o : Option A) (x : A) → cond b o None ≡ Some x → (b ≡ true) × (o ≡ Some x)
cond_some true o x h = (refl, h)
cond_some false o x h = none_some h
