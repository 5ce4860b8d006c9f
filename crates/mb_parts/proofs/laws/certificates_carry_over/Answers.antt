use Rattle.mb_parts.proofs.CertificateLaws.{certificate_laws}
use Rattle.mb_parts.proofs.laws.certificates_carry_over.Goals as goal

pub returns : goal.returns
returns c = certificate_laws
