use Rattle.mon_client.proofs.value.address.Goals as goal

pub returns-in-Err-clause-fault : goal.returns-in-Err-clause-fault
returns-in-Err-clause-fault c = λ octets dotted. c.in-Err.ensures.value (record { octets = octets }) dotted
