use Rattle.sbpf_verify.proofs.ImageLaws.{written}
use Rattle.sbpf_verify.proofs.laws.images_are_written_as_they_are_read.Goals as goal

pub returns : goal.returns
returns c = record { written = λ bytes image h. written bytes image h }
