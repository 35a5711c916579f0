use Rattle.sbpf_verify.proofs.ImageLaws.{read_again}
use Rattle.sbpf_verify.proofs.laws.images_are_read_again.Goals as goal

pub returns : goal.returns
returns c = record { again = λ image is. read_again image is }
