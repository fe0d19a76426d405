use Rattle.code_texts.proofs.TextsOfMembers.{member_fits}
use Rattle.code_texts.proofs.laws.short_code_fits.Goals as goal

pub returns : goal.returns
returns c = member_fits
