mod Limited
