-- `blank` meets its contract: a refused opening of a digest hands the blank session out. Assumes nothing.
use Rattle.hmac.proofs.Laws.Opening.{blank_is, none_opened}
use Rattle.hmac.proofs.tag_session.TagSession.blank.Goals as goal

pub unwrap_err-requires : goal.unwrap_err-requires
unwrap_err-requires c = search none_opened

pub returns : goal.returns
returns c = search blank_is
