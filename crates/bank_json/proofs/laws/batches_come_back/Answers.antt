use Rattle.bank_json.specs.BatchJson.{data_of_batch, batch_of_data}
use Rattle.bank_json.proofs.BatchLaws.{batches_again}
use Rattle.bank_json.proofs.Texts.{comes_back}
use Rattle.bank_json.proofs.laws.batches_come_back.Goals as goal

pub returns : goal.returns
returns c = λ bytes text are h. comes_back batch_of_data (data_of_batch bytes) text bytes h (λ d written. batches_again bytes d are written)
