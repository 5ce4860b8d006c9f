-- The laws of the byte formats, from the two laws of each field.
use Rattle.std.proofs.Common.{◌≡◌, ℕ, ◌^◌, ◌<◌, refl}
use Rattle.std.specs.Int.{w8, w16, w32, w64}
use Rattle.mb_base.specs.declared.shape.Shape.{Shape}
use Rattle.mb_base.specs.Shapes.{IsShape}
use Rattle.mb_base.proofs.Laws.{number_field, bytes_field, wide8, wide16, wide32, wide64}
use Rattle.mb_parts.specs.Fits.{FitsBare}
use Rattle.mb_parts.specs.Bares.{bare_bytes}
use Rattle.mb_parts.proofs.BareLaws.{bare_injective}
use Rattle.mb_msg.specs.declared.stamped.Shown.{Shown}
use Rattle.mb_msg.specs.declared.stamped.Shown.TheVariants as shown
use Rattle.mb_msg.specs.declared.stamped.Stamped.{Stamped}
use Rattle.mb_msg.specs.Fits.{FitsShown, FitsStamped}
use Rattle.mb_msg.specs.Stamps.{bare_of, bare_of_shown}
use Rattle.mb_msg.proofs.Injective.{digest_fits, bare_fits}
use Rattle.mb_format_laws.specs.Laws.{FieldsAreReadBack, CertificatesSayAll, MarksFollow}

pub fields_back : FieldsAreReadBack
fields_back = record {
  one_byte = λ n at rest lt. (number_field w8 (2 ^ 8) wide8).again n at rest lt;
  two_bytes = λ n at rest lt. (number_field w16 (2 ^ 16) wide16).again n at rest lt;
  four_bytes = λ n at rest lt. (number_field w32 (2 ^ 32) wide32).again n at rest lt;
  eight_bytes = λ n at rest lt. (number_field w64 (2 ^ 64) wide64).again n at rest lt;
  bytes = λ bytes at rest. (bytes_field _).again bytes at rest refl;
}

-- what a shown message says that fits
shown_fits : (s : Shape) (m : Shown) → FitsShown s m → FitsBare s (bare_of_shown m)
shown_fits s (shown.Prepare m) f = (f.view, (f.pos, digest_fits _ _ m.body f.body))
shown_fits s (shown.Commit m) f = (f.view, (f.pos, (f.counter, (f.cert, digest_fits _ _ m.body f.body))))
shown_fits s (shown.Checkpoint m) f = (f.pos, (f.state, f.body))
shown_fits s (shown.ViewChange m) f = (f.view, f.body)
shown_fits s (shown.NewView m) f = (f.view, (f.base, (f.end, (f.plan, f.body))))
shown_fits s (shown.Enter m) f = (f.view, (f.counter, f.plan))
shown_fits s (shown.Open m) f = (f.evidence, digest_fits _ _ m.body f.body)
shown_fits s (shown.Join m) f = (f.view, (f.evidence, (f.stable, f.above)))

pub say_all : CertificatesSayAll
say_all = record {
  stamped = λ s h x y fx fy. bare_injective s h (bare_of x) (bare_of y) (bare_fits s x fx) (bare_fits s y fy);
  shown = λ s h x y fx fy. bare_injective s h (bare_of_shown x) (bare_of_shown y) (shown_fits s x fx) (shown_fits s y fy);
  either = λ s h x y fx fy. bare_injective s h (bare_of x) (bare_of_shown y) (bare_fits s x fx) (shown_fits s y fy);
}

pub follow : MarksFollow
follow = record {
  stamped = λ s h x y fx fy same counter. rw (say_all.stamped s h x y fx fy same, counter) refl;
  shown = λ s h x y fx fy same counter. rw (say_all.shown s h x y fx fy same, counter) refl;
  either = λ s h x y fx fy same counter. rw (say_all.either s h x y fx fy same, counter) refl;
}
