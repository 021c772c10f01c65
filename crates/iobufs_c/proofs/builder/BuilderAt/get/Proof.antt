-- `get` lends the builder at the place, and the place follows it.
use Rattle.std.proofs.Common.{refl}
use Rattle.iobufs.specs.contracts.builder.Builder.{the_row as V}
use Rattle.iobufs_c.specs.declared.builder.BuilderAt.{BuilderAt}
use Rattle.iobufs_c.specs.contracts.builder.BuilderAt.{struct, the_codes}
use Rattle.iobufs_c.specs.contracts.builder.BuilderAt.get.Key.{name}
use Rattle.iobufs_c.proofs.Places.{lends}
use Rattle.iobufs_c.proofs.builder.BuilderAt.get.Statement.{statement}
use Rattle.iobufs_c.proofs.builder.BuilderAt.get.Code as code

pub get_spec : {M : Type 1} → statement M
get_spec 𝓤 𝓛 𝓜 𝓡 wired =
    lends V struct.name BuilderAt (λ d. d.at) (λ d. d.value) (λ p v. record { at = p; value = v }) (λ d. refl) (λ p v. refl)
    (λ p v. refl) the_codes tt 𝓛
    𝓜 𝓡 name _ _ _ (code.unfolded 𝓤 𝓛.H 𝓜 𝓡 wired)
