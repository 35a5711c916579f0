use Rattle.message_codec.proofs.RoleLaws.{payer_signs, payer_is_writable}
use Rattle.message_codec.proofs.laws.sane_payers_sign_and_are_writable.Goals as goal

pub returns-clause-signs : goal.returns-clause-signs
returns-clause-signs c = payer_signs

pub returns-clause-writable : goal.returns-clause-writable
returns-clause-writable c = payer_is_writable
